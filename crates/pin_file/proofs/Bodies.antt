-- The lines of a text, one after another.
use Rattle.std.proofs.Common.{◌≡◌, ℕ, ◌+◌, true, false, cond, List, [], ◌∷◌, Ok, Err, codes, refl}
use Rattle.std.specs.Str.{bytes_eq}
use Rattle.lb_types_text.specs.Parts.{parts}
use Rattle.lb_types_text.proofs.Cuts.{some_part}
use Rattle.dual_cert_text.specs.declared.fault.TextFault.TheVariants.{BadLine, Truncated}
use Rattle.dual_cert_text.specs.Faults.{◌>>=◌}
use Rattle.dual_cert_text.specs.Texts.{is_nothing}
use Rattle.dual_cert_text.proofs.Bodies.{some_more}
use Rattle.pin_file.specs.Texts.{PinFileDraft, add_line, lines_at}

pub lines_end : (n : ℕ) (draft : PinFileDraft) (text line behind : List ℕ) → parts 10 text ≡ line ∷ parts 10 behind → bytes_eq line (codes "end") ≡ true → cond (is_nothing (parts 10 behind)) (Ok draft) (Err (BadLine (n + 1))) ≡ lines_at n draft (parts 10 text)
unfolding lines_at
lines_end n draft text line behind found is =
    let more = some_more (parts 10 behind) (some_part 10 behind) in
    rw (found, more, is) refl

pub lines_more : (n : ℕ) (draft : PinFileDraft) (text line behind : List ℕ) → parts 10 text ≡ line ∷ parts 10 behind → bytes_eq line (codes "end") ≡ false → (add_line n draft (parts 32 line) >>= λ next. lines_at (n + 1) next (parts 10 behind)) ≡ lines_at n draft (parts 10 text)
unfolding lines_at
lines_more n draft text line behind found is =
    let more = some_more (parts 10 behind) (some_part 10 behind) in
    rw (found, more, is) refl

pub lines_none : (n : ℕ) (draft : PinFileDraft) (text : List ℕ) → parts 10 text ≡ text ∷ [] → lines_at n draft (parts 10 text) ≡ Err Truncated
unfolding lines_at
lines_none n draft text none = rw none refl
