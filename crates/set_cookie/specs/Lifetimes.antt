-- When a cookie is one that is deleted: RFC 6265, sections 5.2.1, 5.2.2 and 5.3. Our own: that an empty value deletes; and the moment
-- with which `Expires` is compared, the one at which the server says that it answered (`Date`, RFC 9110, section 6.6.1).
use Rattle.std.specs.Prelude.{ℕ, Bool, true, false, nat_lt, nat_eq, ◌==◌, ◌||◌, not, List, [], ◌∷◌, length, drop, Option, Some, None, codes, if◌then◌else◌}
use Rattle.std.specs.List.{starts_with, filter_map, last_or}
use Rattle.std.specs.Str.Parse.{digits_value}
use Rattle.lb_types_text.specs.Numbers.{is_number}
use Rattle.lb_acl.specs.Bytes.{is_equal}
use Rattle.set_cookie.specs.SetCookies.{pair_of, attributes_of, name_of, value_of}
use Rattle.set_cookie.specs.Dates.{moment}

-- the attribute has this name, whatever the case of its letters
abbrev pub is_attribute : List ℕ → List ℕ → Bool
is_attribute name attribute = is_equal true (name_of attribute) name

abbrev pub is_negative : List ℕ → Bool
is_negative number = starts_with nat_eq number (45 ∷ [])

abbrev pub without_sign : List ℕ → List ℕ
without_sign number = if is_negative number then drop 1 number else number

-- whether an age of so many seconds is 0 or less, if it is a number
unfoldable pub is_no_age : List ℕ → Option Bool
is_no_age age =
    if is_number (without_sign age) then Some (is_negative age || digits_value 10 (without_sign age) == 0) else None

-- whether the attribute says that the cookie has no age
unfoldable pub no_age : List ℕ → Option Bool
no_age attribute = if is_attribute (codes "Max-Age") attribute then is_no_age (value_of attribute) else None

-- the moment at which the attribute says that the cookie expires
unfoldable pub expiry : List ℕ → Option ℕ
expiry attribute = if is_attribute (codes "Expires") attribute then moment (value_of attribute) else None

-- `Max-Age` goes before `Expires`
abbrev pub is_over : ℕ → Option Bool → Option ℕ → Bool
is_over answered (Some has_no_age) _ = has_no_age
is_over answered None (Some expires) = not (nat_lt answered expires)
is_over answered None None = false

-- of the attributes that can be read, the last of each name counts
unfoldable pub has_ended : ℕ → List (List ℕ) → Bool
has_ended answered attributes = is_over answered (last_or None (filter_map no_age attributes)) (last_or None (filter_map expiry attributes))

-- in an answer of this moment the text deletes its cookie
unfoldable pub is_deletion : ℕ → List ℕ → Bool
is_deletion answered text = length (value_of (pair_of text)) == 0 || has_ended answered (attributes_of text)
