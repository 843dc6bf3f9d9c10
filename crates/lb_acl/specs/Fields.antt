-- Fields and the values in them: RFC 9110, sections 5.1 (names), 5.5 (values) and 5.6.1 (lists). A comma in quotes separates like
-- any other, which is a choice of this project, and an empty element of a list counts.
use Rattle.std.specs.Prelude.{ℕ, Bool, true, List, map}
use Rattle.std.specs.List.{filter, flat_map}
use Rattle.lb_types_text.specs.Parts.{parts}
use Rattle.lb_acl.specs.FieldView.{FieldView}
use Rattle.lb_acl.specs.Bytes.{is_equal, trimmed}

-- the field has this name, whatever the case of its letters
abbrev pub is_named : List ℕ → FieldView → Bool
is_named name field = is_equal true field.name name

-- the parts between the marks, without the blanks round each
abbrev pub trimmed_parts : ℕ → List ℕ → List (List ℕ)
trimmed_parts mark bytes = map trimmed (parts mark bytes)

-- the comma-separated values of all fields of this name, in their order
unfoldable pub values_of : List ℕ → List FieldView → List (List ℕ)
values_of name fields = flat_map (λ field. trimmed_parts 44 field.value) (filter (is_named name) fields)
