-- The definitions at worked examples.
use Rattle.std.proofs.Common.{◌≡◌, ℕ, List, [], ◌∷◌, Some, None, refl}
use Rattle.std.specs.Prelude.{codes}
use Rattle.std.specs.List.{last_or}
use Rattle.lb_acl.specs.FieldView.{FieldView}
use Rattle.lb_acl.specs.Bytes.{trimmed}
use Rattle.lb_acl.specs.Fields.{values_of}
use Rattle.lb_acl.specs.Cookies.{cookie_value, cookies_of}
use Rattle.lb_acl.specs.Paths.{path_of}

absolute_form : path_of (codes "http://h/a?b") ≡ codes "/a"
unfolding path_of
absolute_form = refl

asterisk_form : path_of (codes "*") ≡ []
unfolding path_of
asterisk_form = refl

an_address_in_the_query : path_of (codes "/b?u=http://h/a") ≡ codes "/b"
unfolding path_of
an_address_in_the_query = refl

unfoldable field : List ℕ → List ℕ → FieldView
field name value = record { name = name; value = value }

two_cookie_fields : last_or None (cookies_of (codes "s") (field (codes "Cookie") (codes "s=1; t=2") ∷ field (codes "Cookie") (codes "s=3") ∷ [])) ≡ Some (codes "3")
unfolding cookies_of cookie_value trimmed field
two_cookie_fields = refl

two_value_fields : last_or None (values_of (codes "x") (field (codes "X") (codes "a, b") ∷ field (codes "X") (codes "c , d") ∷ [])) ≡ Some (codes "d")
unfolding values_of trimmed field
two_value_fields = refl

an_empty_last_value : last_or None (values_of (codes "x") (field (codes "X") (codes "a,") ∷ [])) ≡ Some []
unfolding values_of trimmed field
an_empty_last_value = refl
