-- Numbers in texts: decimal digits of ASCII, without a sign.
use Rattle.std.specs.Prelude.{ℕ, ◌^◌, ◌-◌, Bool, ◌==◌, ◌&&◌, ◌||◌, not, nat_lt, min, get_or, List, length, Option, Some, None, if◌then◌else◌}
use Rattle.std.specs.List.{list_all}
use Rattle.std.specs.Char.{is_ascii_digit}
use Rattle.std.specs.Str.Parse.{digits_value}
use Rattle.lb_types_text.specs.declared.numbers.Digits.{Digits}
use Rattle.lb_types_text.specs.declared.numbers.Digits.TheVariants.{Misspelt, TooLarge, Value}

-- the word is one or more digits
abbrev pub is_number : List ℕ → Bool
is_number word = not (length word == 0) && list_all is_ascii_digit word

-- the number, if 64 bits can hold it
abbrev pub within_64_bits : ℕ → Option ℕ
within_64_bits number = if nat_lt number (2 ^ 64) then Some number else None

-- the number that the word spells, leading zeros allowed, or why there is none
unfoldable pub digits_of : List ℕ → Digits
digits_of word =
    if not (is_number word) then Misspelt else (if nat_lt (digits_value 10 word) (2 ^ 64) then Value (digits_value 10 word) else TooLarge)

-- the word has one digit, or its first byte is not `0`
abbrev pub has_no_leading_zero : List ℕ → Bool
has_no_leading_zero word = length word == 1 || not (get_or word 0 0 == 48)

-- the number that the word spells without a leading zero, cut at the largest number of 64 bits
unfoldable pub numeral_of : List ℕ → Option ℕ
numeral_of word = if is_number word && has_no_leading_zero word then Some (min (digits_value 10 word) (2 ^ 64 - 1)) else None
