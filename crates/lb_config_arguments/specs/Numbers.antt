-- Numbers, times and sizes in a configuration: HAProxy Configuration Manual 2.8, sections 2.4 ("Time format") and `stick-table`
-- (`size`). A time in microseconds is rounded up to a millisecond, which is a choice of this project.
use Rattle.std.specs.Prelude.{ℕ, ◌*◌, ◌^◌, ◌&&◌, ◌==◌, nat_lt, nat_le, List, length, take, drop, Option, Some, None, Result, Ok, Err, codes, bytes_eq, if◌then◌else◌}
use Rattle.std.specs.Int.{div_ceil}
use Rattle.std.specs.Char.{is_ascii_digit}
use Rattle.std.specs.List.{prefix_len}
use Rattle.std.specs.Option.{option_map}
use Rattle.lb_types_text.specs.declared.numbers.Digits.{Digits}
use Rattle.lb_types_text.specs.declared.numbers.Digits.TheVariants.{Misspelt, TooLarge, Value}
use Rattle.lb_types_text.specs.Numbers.{digits_of}
use Rattle.lb_types.specs.declared.limits.TheConstants.{MAX_PINS}
use Rattle.lb_config_arguments.specs.declared.numbers.TheConstants.{MAX_MILLIS}
use Rattle.lb_config_arguments.specs.declared.fault.Fault.{Fault}
use Rattle.lb_config_arguments.specs.declared.fault.Fault.TheVariants.{BadNumber}

-- the number, if there is one and it is in the range
abbrev pub within : ℕ → ℕ → Option ℕ → Result ℕ Fault
within least most (Some number) = if nat_le least number && nat_le number most then Ok number else Err BadNumber
within least most None = Err BadNumber

-- so many units, if 64 bits can hold that
abbrev pub amount_of : Option ℕ → Digits → Option ℕ
amount_of (Some unit) (Value number) = if nat_lt (number * unit) (2 ^ 64) then Some (number * unit) else None
amount_of (Some unit) TooLarge = None
amount_of (Some unit) Misspelt = None
amount_of None digits = None

-- how many digits the word begins with
abbrev pub digit_count : List ℕ → ℕ
digit_count word = prefix_len is_ascii_digit word

-- the number that the word begins with, times the unit that stands behind it
unfoldable pub quantity_of : (List ℕ → Option ℕ) → List ℕ → Option ℕ
quantity_of unit_of word = amount_of (unit_of (drop (digit_count word) word)) (digits_of (take (digit_count word) word))

-- the length of a unit of time in microseconds; without a unit a time is in milliseconds
unfoldable pub time_unit : List ℕ → Option ℕ
time_unit unit =
    if length unit == 0 then Some 1000
    else (if bytes_eq unit (codes "us") then Some 1
    else (if bytes_eq unit (codes "ms") then Some 1000
    else (if bytes_eq unit (codes "s") then Some 1000000
    else (if bytes_eq unit (codes "m") then Some 60000000
    else (if bytes_eq unit (codes "h") then Some 3600000000
    else (if bytes_eq unit (codes "d") then Some 86400000000 else None))))))

-- a unit of sizes
unfoldable pub size_unit : List ℕ → Option ℕ
size_unit unit =
    if length unit == 0 then Some 1
    else (if bytes_eq unit (codes "k") then Some 1024
    else (if bytes_eq unit (codes "m") then Some 1048576
    else (if bytes_eq unit (codes "g") then Some 1073741824 else None)))

-- the number that the word is, in the range from `least` to `most`; leading zeros are allowed
unfoldable pub number_in : ℕ → ℕ → List ℕ → Result ℕ Fault
number_in least most word = within least most (amount_of (Some 1) (digits_of word))

-- a time in milliseconds
unfoldable pub time_in : List ℕ → Result ℕ Fault
time_in word = within 0 MAX_MILLIS (option_map (λ micros. div_ceil micros 1000) (quantity_of time_unit word))

-- the size of a table
unfoldable pub size_in : List ℕ → Result ℕ Fault
size_in word = within 1 MAX_PINS (quantity_of size_unit word)
