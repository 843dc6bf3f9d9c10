-- What is found from line to line.
use Rattle.std.proofs.Common.{◌≡◌, ℕ, true, false, cond, Option, None, List, [], ◌∷◌, ◌++◌, codes, refl, sym, ap, ◌∙◌}
use Rattle.std.specs.List.{last_or, list_all, filter, filter_map}
use Rattle.std.proofs.lemmas.List.Elements.{filter-append, filter_map-append}
use Rattle.std.proofs.lemmas.List.{map-append}
use Rattle.set_cookie.proofs.Firsts.{before_yes, before_no}
use Rattle.lb_acl.proofs.LastOnes.{last_or-append}
use Rattle.set_cookie.specs.Dates.{moment}
use Rattle.set_cookie.specs.Fields.{is_field_line, values_of}
use Rattle.set_cookie.specs.Lines.{is_empty}
use Rattle.set_cookie.specs.Scans.{head_of, text_after, date_after}
use Rattle.set_cookie.specs.SetCookies.{is_cookie, set_cookies}

values_of-append : (name : List ℕ) (xs ys : List (List ℕ)) → values_of name (xs ++ ys) ≡ values_of name xs ++ values_of name ys
unfolding values_of
values_of-append name xs ys = simp (filter-append, map-append)

set_cookies-append : (name : List ℕ) (xs ys : List (List ℕ)) → set_cookies name (xs ++ ys) ≡ set_cookies name xs ++ set_cookies name ys
unfolding set_cookies
set_cookies-append name xs ys = ap (filter (is_cookie name)) (values_of-append (codes "Set-Cookie") xs ys) ∙ filter-append (is_cookie name) (values_of (codes "Set-Cookie") xs) (values_of (codes "Set-Cookie") ys)

head_at_end : (line : List ℕ) (more : List (List ℕ)) → is_empty line ≡ true → head_of (line ∷ more) ≡ []
head_at_end line more e = before_yes is_empty line more e

head_goes_on : (line : List ℕ) (more : List (List ℕ)) → is_empty line ≡ false → head_of (line ∷ more) ≡ line ∷ head_of more
head_goes_on line more e = before_no is_empty line more e

no_cookies : (name : List ℕ) → set_cookies name [] ≡ []
unfolding set_cookies values_of
no_cookies name = refl

no_values : (name : List ℕ) → values_of name [] ≡ []
unfolding values_of
no_values name = refl

-- nothing is left of the head
text_at_nothing : (name : List ℕ) (found : Option (List ℕ)) (lines : List (List ℕ)) → head_of lines ≡ [] → text_after name found lines ≡ found
unfolding text_after
text_at_nothing name found lines e = rw (e, no_cookies name) refl

pub text_at_last : (name : List ℕ) (found : Option (List ℕ)) (lines : List (List ℕ)) → lines ≡ [] → text_after name found lines ≡ found
text_at_last name found lines e = text_at_nothing name found lines (ap head_of e)

pub text_at_end : (name : List ℕ) (found : Option (List ℕ)) (lines : List (List ℕ)) (line : List ℕ) (more : List (List ℕ)) → lines ≡ line ∷ more → is_empty line ≡ true → text_after name found lines ≡ found
text_at_end name found lines line more is e = text_at_nothing name found lines (ap head_of is ∙ head_at_end line more e)

-- the head is bad
pub text_at_bad : (name : List ℕ) (found : Option (List ℕ)) (lines : List (List ℕ)) (line : List ℕ) (more : List (List ℕ)) → lines ≡ line ∷ more → is_empty line ≡ false → is_field_line line ≡ false → text_after name found lines ≡ None
unfolding text_after
text_at_bad name found lines line more is e bad = rw (is, head_goes_on line more e, bad) refl

-- one line more
pub text_at_line : (name : List ℕ) (found next : Option (List ℕ)) (lines : List (List ℕ)) (line : List ℕ) (more rest : List (List ℕ)) → lines ≡ line ∷ more → rest ≡ more → is_empty line ≡ false → is_field_line line ≡ true → next ≡ last_or found (set_cookies name (line ∷ [])) → text_after name next rest ≡ text_after name found lines
unfolding text_after
text_at_line name found next lines line more rest is after e good step =
    let both : last_or found (set_cookies name (line ∷ head_of more)) ≡ last_or (last_or found (set_cookies name (line ∷ []))) (set_cookies name (head_of more)) =
    ap (last_or found) (set_cookies-append name (line ∷ []) (head_of more)) ∙ last_or-append found (set_cookies name (line ∷ [])) (set_cookies name (head_of more)) in
    rw (is, after, step, head_goes_on line more e, good) (ap (λ o. cond (list_all is_field_line (head_of more)) o None) (sym both))

pub date_at_last : (found : Option ℕ) (lines : List (List ℕ)) → lines ≡ [] → date_after found lines ≡ found
unfolding date_after
date_at_last found lines is = rw (is, no_values (codes "Date")) refl

pub date_at_end : (found : Option ℕ) (lines : List (List ℕ)) (line : List ℕ) (more : List (List ℕ)) → lines ≡ line ∷ more → is_empty line ≡ true → date_after found lines ≡ found
unfolding date_after
date_at_end found lines line more is e = rw (is, head_at_end line more e, no_values (codes "Date")) refl

pub date_at_line : (found next : Option ℕ) (lines : List (List ℕ)) (line : List ℕ) (more rest : List (List ℕ)) → lines ≡ line ∷ more → rest ≡ more → is_empty line ≡ false → next ≡ last_or found (filter_map moment (values_of (codes "Date") (line ∷ []))) → date_after next rest ≡ date_after found lines
unfolding date_after
date_at_line found next lines line more rest is after e step =
    let apart : filter_map moment (values_of (codes "Date") (line ∷ head_of more)) ≡ filter_map moment (values_of (codes "Date") (line ∷ [])) ++ filter_map moment (values_of (codes "Date") (head_of more)) =
    ap (filter_map moment) (values_of-append (codes "Date") (line ∷ []) (head_of more)) ∙ filter_map-append moment (values_of (codes "Date") (line ∷ [])) (values_of (codes "Date") (head_of more)) in
    let both = ap (last_or found) apart ∙ last_or-append found (filter_map moment (values_of (codes "Date") (line ∷ []))) (filter_map moment (values_of (codes "Date") (head_of more))) in
    rw (is, after, step, head_goes_on line more e) (sym both)
