-- How answers say the key of a pin, so that it is one word: percent-encoding, as in section 1.3 of the URL Standard. Our own
-- is which bytes are escaped: all but those from `!` to `~`, and `%`.
use Rattle.std.specs.Prelude.{ℕ, ◌/◌, ◌%◌, Bool, true, not, ◌&&◌, ◌==◌, Option, Some, None, List, [], ◌∷◌, flat_map, codes, if◌then◌else◌}
use Rattle.std.specs.Fmt.{digit_glyph}
use Rattle.std.specs.Net.Addr.{ipv4_octets}
use Rattle.std.specs.Net.Text.{ipv4_text}
use Rattle.lb_types.specs.Names.{is_between, is_dash}
use Rattle.pin_set.specs.declared.pin_key.PinKey.{PinKey}
use Rattle.pin_set.specs.declared.pin_key.PinKey.TheVariants.{Ipv4, Text}

-- a byte from `!` (33) to `~` (126), but not `%` (37)
abbrev pub is_plain : ℕ → Bool
is_plain byte = is_between 33 126 byte && not (byte == 37)

-- the byte as it is where it is plain, and else `%` and its two upper-case hexadecimal digits
abbrev pub escaped : ℕ → List ℕ
escaped byte = if is_plain byte then byte ∷ [] else 37 ∷ digit_glyph true (byte / 16) ∷ digit_glyph true (byte % 16) ∷ []

-- the bytes of a key, each escaped where it has to be. `-` alone is escaped too, since it says that there is no key
unfoldable pub text_word : List ℕ → List ℕ
text_word bytes = if is_dash bytes then codes "%2D" else flat_map escaped bytes

abbrev pub key_word : PinKey → List ℕ
key_word (Ipv4 address) = ipv4_text (ipv4_octets address)
key_word (Text bytes) = text_word bytes

-- a request's key, with `-` for none
abbrev pub asked_key : Option PinKey → List ℕ
asked_key None = codes "-"
asked_key (Some key) = key_word key
