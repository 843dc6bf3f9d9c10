-- The values of the fields of one name.
use Rattle.std.proofs.Common.{◌≡◌, ℕ, Bool, true, false, ◌&&◌, ◌||◌, List, [], ◌∷◌, refl}
use Rattle.std.specs.List.{list_any}
use Rattle.std.proofs.lemmas.List.Folds.{list_any-append}
use Rattle.lb_acl.specs.FieldView.{FieldView}
use Rattle.lb_acl.specs.TextTestView.{TextTestView}
use Rattle.lb_acl.specs.Fields.{is_named, trimmed_parts, values_of}
use Rattle.lb_acl.specs.Acls.{value_passes, field_passes}

values_more : (p : List ℕ → Bool) (name : List ℕ) (f : FieldView) (fs : List FieldView) (rest : Bool) → list_any p (values_of name fs) ≡ rest → list_any p (values_of name (f ∷ fs)) ≡ ((is_named name f && list_any p (trimmed_parts 44 f.value)) || rest)
unfolding values_of
values_more p name f fs rest h = by (is_named name f) refl
  where
    by : (b : Bool) → is_named name f ≡ b → list_any p (values_of name (f ∷ fs)) ≡ ((is_named name f && list_any p (trimmed_parts 44 f.value)) || rest)
    by true e = rw (e, list_any-append p (trimmed_parts 44 f.value) (values_of name fs), h)
    by false e = rw e h

-- a test of all values is a test of the values of each field
pub some_field_passes : (test : TextTestView) (name : List ℕ) (fields : List FieldView) → list_any (value_passes test) (values_of name fields) ≡ list_any (field_passes test name) fields
unfolding values_of
some_field_passes test name [] = refl
some_field_passes test name (f ∷ fs) =
    values_more (value_passes test) name f fs (list_any (field_passes test name) fs) (some_field_passes test name fs)
