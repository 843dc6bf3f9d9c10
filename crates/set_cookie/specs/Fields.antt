-- Field lines: RFC 9110, sections 5.1 and 5.5; RFC 9112, section 5. A line that goes on with the one before it (section 5.2) is none.
-- Our own: a name may have any visible byte but `:`.
use Rattle.std.specs.Prelude.{ℕ, Bool, true, nat_lt, ◌&&◌, List, map, length}
use Rattle.std.specs.List.{filter, list_all}
use Rattle.lb_acl.specs.Bytes.{is_equal, trimmed}
use Rattle.set_cookie.specs.Bytes.{before, after, has_mark}

-- neither a blank nor a control byte, and of ASCII
abbrev pub is_visible : ℕ → Bool
is_visible byte = nat_lt 32 byte && nat_lt byte 127

-- what stands before the first `:`
abbrev pub field_name : List ℕ → List ℕ
field_name line = before 58 line

-- what stands after it, without blanks at its ends
abbrev pub field_value : List ℕ → List ℕ
field_value line = trimmed (after 58 line)

-- a name of visible bytes, and `:`
unfoldable pub is_field_line : List ℕ → Bool
is_field_line line = has_mark 58 line && nat_lt 0 (length (field_name line)) && list_all is_visible (field_name line)

-- the line's field has this name, whatever the case of its letters
abbrev pub is_field : List ℕ → List ℕ → Bool
is_field name line = is_equal true (field_name line) name

-- the values of the fields of this name
unfoldable pub values_of : List ℕ → List (List ℕ) → List (List ℕ)
values_of name lines = map field_value (filter (is_field name) lines)
