-- What a `Set-Cookie` field says: RFC 6265, section 5.2. A text with a control byte says nothing, as in section 5.6 of its successor,
-- draft-ietf-httpbis-rfc6265bis. Quotes round a value are part of it, as they are in a request.
use Rattle.std.specs.Prelude.{ℕ, Bool, nat_lt, ◌==◌, ◌&&◌, ◌||◌, not, List, codes, bytes_eq}
use Rattle.std.specs.List.{filter, list_any}
use Rattle.lb_types_text.specs.Parts.{parts}
use Rattle.lb_acl.specs.Bytes.{trimmed}
use Rattle.set_cookie.specs.Bytes.{before, after, has_mark}
use Rattle.set_cookie.specs.Fields.{values_of}

-- a control byte other than a tab
abbrev pub is_control : ℕ → Bool
is_control byte = (nat_lt byte 32 && not (byte == 9)) || byte == 127

-- the cookie's name and value: what stands before the first `;`
abbrev pub pair_of : List ℕ → List ℕ
pair_of text = before 59 text

-- the attributes: what stands between the further ones
abbrev pub attributes_of : List ℕ → List (List ℕ)
attributes_of text = parts 59 (after 59 text)

-- the name of a pair or an attribute: what stands before its first `=`, without blanks at its ends
abbrev pub name_of : List ℕ → List ℕ
name_of part = trimmed (before 61 part)

-- its value: what stands after it, without blanks at its ends
abbrev pub value_of : List ℕ → List ℕ
value_of part = trimmed (after 61 part)

-- the text is of a cookie of this name, byte for byte
unfoldable pub is_cookie : List ℕ → List ℕ → Bool
is_cookie name text = not (list_any is_control text) && has_mark 61 (pair_of text) && bytes_eq (name_of (pair_of text)) name

-- the texts of the `Set-Cookie` fields for cookies of this name
unfoldable pub set_cookies : List ℕ → List (List ℕ) → List (List ℕ)
set_cookies name fields = filter (is_cookie name) (values_of (codes "Set-Cookie") fields)
