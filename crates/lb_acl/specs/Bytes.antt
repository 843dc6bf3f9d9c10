-- Bytes with and without regard to the case of ASCII letters, and without blanks: RFC 9110, sections 5.1 and 5.6.3.
use Rattle.std.specs.Prelude.{ℕ, ◌-◌, Bool, ◌==◌, ◌||◌, List, length, take, drop, if◌then◌else◌, bytes_eq}
use Rattle.std.specs.List.{prefix_len, suffix_len, position_or_len}
use Rattle.std.specs.Str.{str_to_ascii_lowercase}

-- the bytes as they are compared: in lower case where the case of ASCII letters doesn't count
abbrev pub compared : Bool → List ℕ → List ℕ
compared ignores_case bytes = if ignores_case then str_to_ascii_lowercase bytes else bytes

-- the two are the same as they are compared
abbrev pub is_equal : Bool → List ℕ → List ℕ → Bool
is_equal ignores_case a b = bytes_eq (compared ignores_case a) (compared ignores_case b)

-- a space or a tab
abbrev pub is_blank : ℕ → Bool
is_blank byte = byte == 32 || byte == 9

-- the bytes without the blanks at their front
abbrev pub trimmed_front : List ℕ → List ℕ
trimmed_front bytes = drop (prefix_len is_blank bytes) bytes

-- the bytes without the blanks at their end
abbrev pub trimmed_end : List ℕ → List ℕ
trimmed_end bytes = take (length bytes - suffix_len is_blank bytes) bytes

-- the bytes without the blanks at both ends
unfoldable pub trimmed : List ℕ → List ℕ
trimmed bytes = trimmed_end (trimmed_front bytes)

-- the place of the first such byte, or the length
abbrev pub place_of : ℕ → List ℕ → ℕ
place_of mark bytes = position_or_len (λ b. b == mark) bytes
