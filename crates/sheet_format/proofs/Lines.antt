-- The lines of a text, one after another.
use Rattle.std.proofs.Common.{◌≡◌, ℕ, ◌+◌, false, Some, List, [], ◌∷◌, Result, Ok, Err, refl, sym, arith}
use Rattle.lb_types_text.specs.Parts.{parts}
use Rattle.lb_types_text.proofs.Numerals.{numeral_again}
use Rattle.dual_cert_text.specs.declared.fault.TextFault.{TextFault}
use Rattle.dual_cert_text.specs.Faults.{◌>>=◌}
use Rattle.dual_cert_text.specs.ServerLines.{usage_of}
use Rattle.dual_cert_text.specs.Words.{keyed}
use Rattle.dual_cert_sheet.specs.SheetSpellings.{room_words}
use Rattle.sheet_format.specs.Texts.{Said, add_line, said_from}
use Rattle.sheet_format.specs.Words.{line_words}

-- a line before others
pub line_more : (n : ℕ) (said : Said) (text line behind : List ℕ) → parts 10 text ≡ line ∷ parts 10 behind
    → (add_line n said (line_words line) >>= λ next. said_from (n + 1) next (parts 10 behind)) ≡ said_from n said (parts 10 text)
unfolding said_from
line_more n said text line behind found = rw found refl

as_it_is : (r : Result Said TextFault) → (r >>= λ next. Ok next) ≡ r
as_it_is (Ok next) = refl
as_it_is (Err fault) = refl

-- the last line
pub line_last : (n : ℕ) (said : Said) (text : List ℕ) → parts 10 text ≡ text ∷ [] → add_line n said (line_words text) ≡ said_from n said (parts 10 text)
unfolding said_from
line_last n said text none = rw none (sym (as_it_is (add_line n said (line_words text))))

-- the largest capacity, where none is said
pub largest_room : usage_of false (room_words (Some 16777216)) ≡ Some (record { capacity = Some 16777216; price = 0 })
unfolding usage_of keyed
largest_room = let n = numeral_again 16777216 (omega arith) in rw n refl
