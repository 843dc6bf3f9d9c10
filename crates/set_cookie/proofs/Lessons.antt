-- What the parts of a head that are found say of what it teaches.
use Rattle.std.proofs.Common.{◌≡◌, ℕ, Bool, true, false, cond, Option, Some, None, List, [], ◌∷◌, refl, sym, ap, ◌∙◌, arith}
use Rattle.std.specs.List.{last_or, list_all}
use Rattle.std.specs.Option.{option_and_then}
use Rattle.std.proofs.lemmas.Bool.{false≢true}
use Rattle.std.proofs.lemmas.Bool.Decides.{nat_tests}
use Rattle.set_cookie.specs.Answers.{answered_at, taught_by, taught_by_fields, value_at}
use Rattle.set_cookie.specs.Fields.{is_field_line}
use Rattle.set_cookie.specs.Lifetimes.{is_deletion}
use Rattle.set_cookie.specs.Lines.{is_empty}
use Rattle.set_cookie.specs.Scans.{head_of, text_after}
use Rattle.set_cookie.specs.SetCookies.{pair_of, set_cookies, value_of}
use Rattle.set_cookie.specs.StatusLines.{is_status_line}
use Rattle.set_cookie.proofs.Firsts.{before_no}
use Rattle.set_cookie.proofs.Stays.{bad_head}

-- the head is empty
pub empty_teaches : (name : List ℕ) (lines : List (List ℕ)) → lines ≡ [] → taught_by name (head_of lines) ≡ None
empty_teaches name lines none = ap (λ ls. taught_by name (head_of ls)) none

-- the status line is bad
pub bad_teaches : (name status : List ℕ) (lines fields : List (List ℕ)) → lines ≡ status ∷ fields → is_status_line status ≡ false → taught_by name (head_of lines) ≡ None
bad_teaches name status lines fields begins bad = ap (λ ls. taught_by name (head_of ls)) begins ∙ bad_head name status fields bad

full : (status : List ℕ) → is_status_line status ≡ true → is_empty status ≡ false
unfolding is_status_line
full [] good = absurd (false≢true good)
full (b ∷ bs) good = grind (arith, nat_tests)

within : (b : Bool) (f : List ℕ → Option (List ℕ)) (found : Option (List ℕ)) → cond b (option_and_then f found) None ≡ option_and_then f (cond b found None)
within true f found = refl
within false f found = refl

lines_teach : (name status : List ℕ) (fields : List (List ℕ)) → is_status_line status ≡ true → taught_by name (status ∷ fields) ≡ cond (list_all is_field_line fields) (taught_by_fields name fields) None
lines_teach name status fields good = rw good refl

texts_teach : (name : List ℕ) (fields : List (List ℕ)) → cond (list_all is_field_line (head_of fields)) (taught_by_fields name (head_of fields)) None ≡ option_and_then (value_at (answered_at (head_of fields))) (text_after name None fields)
unfolding taught_by_fields text_after
texts_teach name fields = within (list_all is_field_line (head_of fields)) (value_at (answered_at (head_of fields))) (last_or None (set_cookies name (head_of fields)))

-- the last text says what is taught
text_teaches : (name status : List ℕ) (lines fields : List (List ℕ)) → lines ≡ status ∷ fields → is_status_line status ≡ true
    → taught_by name (head_of lines) ≡ option_and_then (value_at (answered_at (head_of fields))) (text_after name None fields)
text_teaches name status lines fields begins good =
    ap (λ ls. taught_by name (head_of ls)) begins ∙ ap (taught_by name) (before_no is_empty status fields (full status good))
    ∙ lines_teach name status (head_of fields) good ∙ texts_teach name fields

pub no_text_teaches : (name status : List ℕ) (lines fields : List (List ℕ)) → lines ≡ status ∷ fields → is_status_line status ≡ true
    → text_after name None fields ≡ None → taught_by name (head_of lines) ≡ None
no_text_teaches name status lines fields begins good none =
    text_teaches name status lines fields begins good ∙ ap (option_and_then (value_at (answered_at (head_of fields)))) none

pub deletion_teaches : (name status text : List ℕ) (lines fields : List (List ℕ)) → lines ≡ status ∷ fields → is_status_line status ≡ true
    → text_after name None fields ≡ Some text → is_deletion (answered_at (head_of fields)) text ≡ true → taught_by name (head_of lines) ≡ None
unfolding value_at
deletion_teaches name status text lines fields begins good found gone =
    text_teaches name status lines fields begins good ∙ ap (option_and_then (value_at (answered_at (head_of fields)))) found ∙ rw gone refl

pub value_teaches : (name status text : List ℕ) (lines fields : List (List ℕ)) → lines ≡ status ∷ fields → is_status_line status ≡ true
    → text_after name None fields ≡ Some text → is_deletion (answered_at (head_of fields)) text ≡ false
    → taught_by name (head_of lines) ≡ Some (value_of (pair_of text))
unfolding value_at
value_teaches name status text lines fields begins good found kept =
    text_teaches name status lines fields begins good ∙ ap (option_and_then (value_at (answered_at (head_of fields)))) found ∙ rw kept refl
