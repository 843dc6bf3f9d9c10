-- The fields that concern one connection alone: RFC 9110, section 7.6.1 (`Connection`). Our own: `Expect` is never passed on.
use Rattle.std.specs.Prelude.{ℕ, Bool, true, not, ◌&&◌, List, codes}
use Rattle.std.specs.List.{list_any}
use Rattle.lb_acl.specs.Bytes.{is_equal}
use Rattle.lb_acl.specs.FieldView.{FieldView}
use Rattle.lb_acl.specs.Fields.{is_named, trimmed_parts}

-- this is a Connection field that has the name among its comma-separated parts, whatever the case of its letters
abbrev pub names_option : List ℕ → FieldView → Bool
names_option name field = is_named (codes "Connection") field && list_any (is_equal true name) (trimmed_parts 44 field.value)

-- a Connection field names it
abbrev pub is_option : List FieldView → List ℕ → Bool
is_option fields name = list_any (names_option name) fields

-- the server gets this one of the fields
abbrev pub is_kept : List FieldView → FieldView → Bool
is_kept fields field = not (is_named (codes "Connection") field) && not (is_named (codes "Expect") field) && not (is_option fields field.name)
