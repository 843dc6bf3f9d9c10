-- The words after an entry's key in an answer to `show table`: HAProxy Management Guide, section 9.3. Our own: each word has
-- a `=`, and of several words with one name the first counts.
use Rattle.std.specs.Prelude.{ℕ, Bool, ◌==◌, List, [], ◌∷◌, Option, Some, None, codes, bytes_eq, if◌then◌else◌}
use Rattle.std.specs.List.{list_any}
use Rattle.std.specs.Option.{option_or, option_map, option_map_or}
use Rattle.lb_types_text.specs.declared.numbers.Digits.{Digits}
use Rattle.lb_types_text.specs.declared.numbers.Digits.TheVariants.{Value}
use Rattle.lb_types_text.specs.Numbers.{digits_of}
use Rattle.lb_types_text.specs.Parts.{parts}
use Rattle.haproxy_admin.specs.Cuts.{◌>>=◌, cut}

-- the number, where the digits are one that 64 bits hold
abbrev pub number_in_digits : Digits → Option ℕ
number_in_digits (Value number) = Some number
number_in_digits _ = None

-- the number in decimal digits, where 64 bits hold it
unfoldable pub number_of : List ℕ → Option ℕ
number_of word = number_in_digits (digits_of word)

-- the words of what follows a key: nothing, or a blank and words with single blanks between them
unfoldable pub words_after : List ℕ → List (List ℕ)
words_after [] = []
words_after (blank ∷ text) = parts 32 text

-- the word has a `=` (61)
unfoldable pub is_field : List ℕ → Bool
is_field word = list_any (λ byte. byte == 61) word

-- what follows the word's first `=`, where this name stands before it
unfoldable pub value_in : List ℕ → List ℕ → Option (List ℕ)
value_in name word = cut 61 word >>= λ two. (if bytes_eq two.0 name then Some two.1 else None)

-- the value of the first word with this name
unfoldable pub value_of : List ℕ → List (List ℕ) → Option (List ℕ)
value_of name [] = None
value_of name (word ∷ words) = option_or (value_in name word) (value_of name words)

-- the number with this name, which no word may have; and nothing where the value is no number
unfoldable pub number_in : List ℕ → List (List ℕ) → Option (Option ℕ)
number_in name words = option_map_or (λ value. option_map (λ number. Some number) (number_of value)) (value_of name words) (Some None)

-- the name of the server, which is `-` where there is none
unfoldable pub server_in : List (List ℕ) → Option (List ℕ)
server_in words = value_of (codes "server_key") words >>= λ name. (if bytes_eq name (codes "-") then None else Some name)
