-- Keys of pins as operators write them: percent-decoding, as in section 1.3 of the URL Standard. Our own is that a `%` without two
-- hexadecimal digits behind it makes a word that is no key.
use Rattle.std.specs.Prelude.{ℕ, ◌+◌, ◌-◌, ◌*◌, ◌==◌, List, [], ◌∷◌, take, Option, Some, None, if◌then◌else◌}
use Rattle.std.specs.Option.{option_and_then, option_map}
use Rattle.lb_types.specs.Names.{is_between}
use Rattle.pin_set.specs.declared.pin_key.PinKey.{PinKey}
use Rattle.pin_set.specs.declared.pin_key.PinKey.TheVariants.{Ipv4, Text}
use Rattle.lb_acl.specs.declared.key.TableType.{TableType}
use Rattle.lb_acl.specs.declared.key.TableType.TheVariants as Table
use Rattle.lb_config_arguments.specs.Addresses.{ipv4_of}

-- the hexadecimal digit that the byte is: `0` to `9`, `A` to `F` or `a` to `f`
abbrev pub digit_of : ℕ → Option ℕ
digit_of byte =
    if is_between 48 57 byte then Some (byte - 48)
    else if is_between 65 70 byte then Some (byte - 55)
    else if is_between 97 102 byte then Some (byte - 87)
    else None

-- the byte of two digits
abbrev pub byte_of : Option ℕ → Option ℕ → Option ℕ
byte_of (Some high) (Some low) = Some (high * 16 + low)
byte_of _ _ = None

-- a byte, and those behind it, if all are there
abbrev pub with_byte : Option ℕ → Option (List ℕ) → Option (List ℕ)
with_byte (Some byte) (Some more) = Some (byte ∷ more)
with_byte _ _ = None

-- the bytes that a word says: those of its escapes (`%`, 37, and two digits), and its own
unfoldable pub bytes_in : List ℕ → Option (List ℕ)
bytes_in [] = Some []
bytes_in (byte ∷ []) = if byte == 37 then None else Some (byte ∷ [])
bytes_in (byte ∷ next ∷ []) = if byte == 37 then None else with_byte (Some byte) (bytes_in (next ∷ []))
bytes_in (byte ∷ high ∷ low ∷ more) =
    if byte == 37 then with_byte (byte_of (digit_of high) (digit_of low)) (bytes_in more)
    else with_byte (Some byte) (bytes_in (high ∷ low ∷ more))

-- the key of the bytes, in a table of the type or without a table: an address, or as many of the bytes as the table keeps
abbrev pub key_of : Option TableType → List ℕ → Option PinKey
key_of None bytes = Some (Text bytes)
key_of (Some Table.Ip) bytes = option_map (λ address. Ipv4 address) (ipv4_of bytes)
key_of (Some (Table.Text len)) bytes = Some (Text (take len bytes))

-- the key that the word is
abbrev pub key_in : Option TableType → List ℕ → Option PinKey
key_in table word = option_and_then (key_of table) (bytes_in word)
