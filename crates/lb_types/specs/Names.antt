-- Names of servers, backends and the like: HAProxy Configuration Manual 2.8, section 4 (names of proxies),
-- with a length of at most 64 bytes. The name `-` is left out: it is the word for "no server" in plans.
use Rattle.std.specs.Prelude.{ℕ, Bool, true, false, ◌==◌, ◌&&◌, ◌||◌, not, nat_lt, nat_le, List, [], ◌∷◌, length, Result, Ok, Err, if◌then◌else◌, bytes_eq, codes}
use Rattle.std.specs.List.{list_all}
use Rattle.lb_types.specs.declared.limits.TheConstants.{MAX_NAME_BYTES}
use Rattle.lb_types.specs.declared.name.NameFault.{NameFault}
use Rattle.lb_types.specs.declared.name.NameFault.TheVariants.{Empty, TooLong, BadByte}

-- the fault's number in answers to operators
abbrev pub number_of : NameFault → ℕ
number_of Empty = 1
number_of TooLong = 2
number_of BadByte = 3

-- the byte is from the first to the last, both included
abbrev pub is_between : ℕ → ℕ → ℕ → Bool
is_between first last byte = nat_le first byte && nat_le byte last

-- a letter, a digit, or one of - _ . :
abbrev pub is_name_byte : ℕ → Bool
is_name_byte byte =
    is_between 97 122 byte || is_between 65 90 byte || is_between 48 57 byte || byte == 45 || byte == 95 || byte == 46 || byte == 58

-- the text is the one byte `-`
abbrev pub is_dash : List ℕ → Bool
is_dash bytes = bytes_eq bytes (codes "-")

abbrev pub is_lawful : List ℕ → Bool
is_lawful bytes = list_all is_name_byte bytes && not (is_dash bytes)

-- the name that the bytes are, or the first of the faults that holds
abbrev pub name_of : List ℕ → Result (List ℕ) NameFault
name_of bytes =
    if length bytes == 0 then Err Empty else (if nat_lt MAX_NAME_BYTES (length bytes) then Err TooLong else (if is_lawful bytes then Ok bytes else Err BadByte))

-- the bytes are a name
abbrev pub is_name : List ℕ → Bool
is_name bytes = not (length bytes == 0) && nat_le (length bytes) MAX_NAME_BYTES && is_lawful bytes
