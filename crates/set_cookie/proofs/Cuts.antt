-- Lines, cut at the place where an LF was found.
use Rattle.std.proofs.Common.{◌≡◌, ℕ, ◌+◌, Bool, ltb, eqb, Option, Some, None, List, [], ◌∷◌, length, get_or, map, take, drop, position, sym, ap, ◌∙◌, arith}
use Rattle.std.specs.List.{position_or_len}
use Rattle.std.proofs.lemmas.Bool.{false_from_ne_true, cond-true, cond-false, lt-ltb, le-ltb}
use Rattle.std.proofs.lemmas.List.Sums.{position_or_len_is}
use Rattle.lb_types_text.proofs.Cuts.{cut_found, cut_none, some_part}
use Rattle.lb_types_text.specs.Parts.{parts}
use Rattle.memchr.specs.Find.{IsFirstByte, is_byte}
use Rattle.set_cookie.proofs.FinalHeads.{ended_cons}
use Rattle.set_cookie.specs.Lines.{ended, line_text, lines_of}

-- what a search for a byte answers is the place of the first one
pub first_byte : (mark : ℕ) (bytes : List ℕ) (found : Option ℕ) → IsFirstByte (is_byte mark) bytes found → found ≡ position (λ b. eqb b mark) bytes
first_byte mark bytes None none =
    let p : ℕ → Bool = λ b. eqb b mark in
    let place : position_or_len p bytes ≡ length bytes =
    position_or_len_is p bytes (length bytes) 0 (omega arith) (λ k within. false_from_ne_true (p (get_or bytes k 0)) (none k (omega arith) within)) (λ past. absurd (omega (arith, past))) in
    sym (cond-false (ltb (position_or_len p bytes) (length bytes)) (Some (position_or_len p bytes)) None (le-ltb (position_or_len p bytes) (length bytes) (omega (arith, place))))
first_byte mark bytes (Some k) first =
    let p : ℕ → Bool = λ b. eqb b mark in
    let place : position_or_len p bytes ≡ k =
    position_or_len_is p bytes k 0 (omega (arith, first.0.high)) (λ j below. false_from_ne_true (p (get_or bytes j 0)) (first.0.before j (omega arith) below)) (λ _. first.1) in
    sym (cond-true (ltb (position_or_len p bytes) (length bytes)) (Some (position_or_len p bytes)) None (lt-ltb (position_or_len p bytes) (length bytes) (omega (arith, place, first.0.high))) ∙ ap Some place)

-- an LF ends the first line
pub first_line : (bytes : List ℕ) (at : ℕ) → position (λ b. eqb b 10) bytes ≡ Some at → lines_of bytes ≡ line_text (take at bytes) ∷ lines_of (drop (at + 1) bytes)
unfolding lines_of
first_line bytes at found =
    ap (λ ps. map line_text (ended ps)) (cut_found 10 bytes at found)
    ∙ ap (map line_text) (ended_cons (take at bytes) (parts 10 (drop (at + 1) bytes)) (some_part 10 (drop (at + 1) bytes)))

-- without an LF there is none
pub no_line : (bytes : List ℕ) → position (λ b. eqb b 10) bytes ≡ None → lines_of bytes ≡ []
unfolding lines_of
no_line bytes none = ap (λ ps. map line_text (ended ps)) (cut_none 10 bytes none)
