-- The last of some values, told as they come.
use Rattle.std.proofs.Common.{◌≡◌, ℕ, ◌+◌, ◌<◌, List, [], ◌∷◌, ◌++◌, length, get_or, take, Option, Some, None, refl, sym, ap, ◌∙◌}
use Rattle.std.specs.List.{last_or}
use Rattle.std.proofs.lemmas.List.{take_more}
use Rattle.std.proofs.lemmas.List.Concat.{flat_map-append}
use Rattle.std.proofs.lemmas.List.Elements.{filter-append}
use Rattle.lb_acl.specs.FieldView.{FieldView}
use Rattle.lb_acl.specs.Fields.{values_of}
use Rattle.lb_acl.specs.Cookies.{cookies_of}

pub last_or-append : {X : Type 0} (o : Option X) (xs ys : List X) → last_or o (xs ++ ys) ≡ last_or (last_or o xs) ys
last_or-append o [] ys = refl
last_or-append o (x ∷ xs) ys = last_or-append (Some x) xs ys

values_of-append : (name : List ℕ) (xs ys : List FieldView) → values_of name (xs ++ ys) ≡ values_of name xs ++ values_of name ys
unfolding values_of
values_of-append name xs ys = simp (filter-append, flat_map-append)

cookies_of-append : (name : List ℕ) (xs ys : List FieldView) → cookies_of name (xs ++ ys) ≡ cookies_of name xs ++ cookies_of name ys
unfolding cookies_of
cookies_of-append name xs ys = simp (filter-append, flat_map-append)

-- one field more, for the values of the fields of one name
pub last_value_more : (name : List ℕ) (fields : List FieldView) (i : ℕ) (field : FieldView) (found next : Option (List ℕ)) → i < length fields → field ≡ get_or fields i field → found ≡ last_or None (values_of name (take i fields)) → next ≡ last_or found (values_of name (field ∷ [])) → next ≡ last_or None (values_of name (take (i + 1) fields))
last_value_more name fields i field found next within item so_far step =
    let front = values_of-append name (take i fields) (field ∷ []) in
    let here : take i fields ++ field ∷ [] ≡ take (i + 1) fields = ap (λ f. take i fields ++ f ∷ []) item ∙ sym (take_more fields i field within) in
    step ∙ ap (λ o. last_or o (values_of name (field ∷ []))) so_far ∙ sym (last_or-append None (values_of name (take i fields)) (values_of name (field ∷ [])))
    ∙ ap (last_or None) (sym front) ∙ ap (λ fs. last_or None (values_of name fs)) here

-- one field more, for the cookies of one name
pub last_cookie_more : (name : List ℕ) (fields : List FieldView) (i : ℕ) (field : FieldView) (found next : Option (List ℕ)) → i < length fields → field ≡ get_or fields i field → found ≡ last_or None (cookies_of name (take i fields)) → next ≡ last_or found (cookies_of name (field ∷ [])) → next ≡ last_or None (cookies_of name (take (i + 1) fields))
last_cookie_more name fields i field found next within item so_far step =
    let front = cookies_of-append name (take i fields) (field ∷ []) in
    let here : take i fields ++ field ∷ [] ≡ take (i + 1) fields = ap (λ f. take i fields ++ f ∷ []) item ∙ sym (take_more fields i field within) in
    step ∙ ap (λ o. last_or o (cookies_of name (field ∷ []))) so_far ∙ sym (last_or-append None (cookies_of name (take i fields)) (cookies_of name (field ∷ [])))
    ∙ ap (last_or None) (sym front) ∙ ap (λ fs. last_or None (cookies_of name fs)) here
