-- Cookies in a request: RFC 6265, sections 4.2.1 and 5.4. A part without `=` is no cookie.
use Rattle.std.specs.Prelude.{ℕ, ◌+◌, Bool, ◌&&◌, nat_lt, List, length, take, drop, Option, Some, None, codes, bytes_eq, if◌then◌else◌}
use Rattle.std.specs.List.{filter, flat_map, filter_map}
use Rattle.lb_acl.specs.FieldView.{FieldView}
use Rattle.lb_acl.specs.Bytes.{place_of}
use Rattle.lb_acl.specs.Fields.{is_named, trimmed_parts}

-- a cookie's pair is a name, `=` and a value, and its name is this one, byte for byte
abbrev pub is_cookie : List ℕ → List ℕ → Bool
is_cookie name pair = nat_lt (place_of 61 pair) (length pair) && bytes_eq (take (place_of 61 pair) pair) name

-- the value of the pair, if it is the cookie of this name
unfoldable pub cookie_value : List ℕ → List ℕ → Option (List ℕ)
cookie_value name pair = if is_cookie name pair then Some (drop (place_of 61 pair + 1) pair) else None

-- the values of the cookies of this name in one field's value
abbrev pub cookies_in : List ℕ → List ℕ → List (List ℕ)
cookies_in name value = filter_map (cookie_value name) (trimmed_parts 59 value)

-- the values of the cookies of this name, in their order
unfoldable pub cookies_of : List ℕ → List FieldView → List (List ℕ)
cookies_of name fields = flat_map (λ field. cookies_in name field.value) (filter (is_named (codes "Cookie")) fields)
