-- What the reader of a pin's line promises.
use Rattle.std.proofs.Common.{◌≡◌, ℕ, Result, Ok, Err, Option, Some, None, List, [], ◌∷◌, codes, sym, ap, ◌∙◌}
use Rattle.std.specs.Option.{IfSome}
use Rattle.std.specs.Result.{IfOk}
use Rattle.std.specs.Str.{bytes_eq}
use Rattle.lb_types_text.specs.Parts.{parts}
use Rattle.lb_types_text.proofs.Joins.{join_parts}
use Rattle.dual_cert_text.specs.Spellings.{line_of_words}
use Rattle.dual_cert_text.proofs.Steps.{if_none, bytes_is}
use Rattle.pin_file.specs.declared.file_pin.FilePin.{FilePin}
use Rattle.pin_file.specs.Files.{IsFilePin}
use Rattle.pin_file.specs.Spellings.{pin_line}
use Rattle.pin_file.specs.Texts.{pin_in}
use Rattle.pin_file.proofs.Lines.{words_of, pin_found, pin_again, pin_line_apart}

words_line : (words : List (List ℕ)) (p : FilePin) → words ≡ words_of p → line_of_words (codes "pin" ∷ words) ≡ pin_line p
unfolding pin_line
words_line words p is = ap (λ ws. line_of_words (codes "pin" ∷ ws)) is

in_found : (words : List (List ℕ)) (p : FilePin) → pin_in words ≡ Some p → IsFilePin p × (line_of_words words ≡ pin_line p)
unfolding pin_in
in_found [] p is = cc
in_found (word ∷ words) p is =
    let said = if_none (bytes_eq word (codes "pin")) _ _ is in
    let found = pin_found words p said.1 in
    (found.1, ap (λ w. line_of_words (w ∷ words)) (bytes_is word (codes "pin") said.0) ∙ words_line words p found.0)

in_again : (p : FilePin) → IsFilePin p → pin_in (parts 32 (pin_line p)) ≡ Some p
unfolding pin_in
in_again p kept = rw (pin_line_apart p kept) (pin_again p kept)

pub pin_is_spelled : {E : Type 0} (line : List ℕ) (r : Result (Option FilePin) E) → IfOk r (λ pin. pin ≡ pin_in (parts 32 line)) → IfOk r (λ pin. IfSome pin (λ p. IsFilePin p × (line ≡ pin_line p)))
pin_is_spelled line (Err e) is = tt
pin_is_spelled line (Ok None) is = tt
pin_is_spelled line (Ok (Some p)) is =
    let found = in_found (parts 32 line) p (sym is) in
    (found.0, sym (join_parts 32 line) ∙ found.1)

pub pin_is_read : {E : Type 0} (line : List ℕ) (r : Result (Option FilePin) E) → IfOk r (λ pin. pin ≡ pin_in (parts 32 line)) → (p : FilePin) → IsFilePin p → line ≡ pin_line p → IfOk r (λ pin. pin ≡ Some p)
pin_is_read line (Err e) is p kept spelled = tt
pin_is_read line (Ok pin) is p kept spelled = is ∙ ap (λ l. pin_in (parts 32 l)) spelled ∙ in_again p kept
