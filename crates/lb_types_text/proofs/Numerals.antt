-- Numbers written in decimal and read again.
use Rattle.std.proofs.Common.{◌≡◌, ℕ, zero, suc, ◌-◌, ◌^◌, ◌<◌, true, false, eqb, min, Some, List, length, get_or, refl, sym, ap, ◌∙◌, arith, rules}
use Rattle.std.specs.Char.{is_ascii_digit}
use Rattle.std.specs.Fmt.{decimal}
use Rattle.std.specs.Int.{IsInRange}
use Rattle.std.specs.List.{list_all}
use Rattle.std.specs.Str.Parse.{digits_value}
use Rattle.std.proofs.lemmas.Bool.Decides.{nat_tests}
use Rattle.std.proofs.lemmas.List.Elements.{All-from_get_or}
use Rattle.std.proofs.lemmas.Fmt.{decimal-digits_value, digits_decimal, digits_value-decimal, decimal_nonempty, first_decimal, decimal_digit}
use Rattle.std.proofs.lemmas.Str.Parse.{IsNumeralModel, IsDigitsTest, numerals_by_value, not_in_digits}
use Rattle.lb_types_text.specs.Numbers.{is_number, has_no_leading_zero, numeral_of}
use Rattle.lb_types_text.proofs.Joins.{HasNo}

abbrev AreDigits : List ℕ → Type 0
AreDigits word = list_all is_ascii_digit word ≡ true

tells : IsDigitsTest AreDigits
tells = search rules

own : IsNumeralModel AreDigits (digits_value 10)
own = numerals_by_value AreDigits tells

starts_otherwise : (word : List ℕ) → 48 < get_or word 0 0 → has_no_leading_zero word ≡ true
starts_otherwise word first = grind (arith, nat_tests)

-- zero is the one digit `0`, and another decimal begins with another digit
decimal_starts : (n : ℕ) → n < 2 ^ 64 → has_no_leading_zero (decimal n) ≡ true
decimal_starts zero small = rw (decimal_digit 0 (omega arith)) refl
decimal_starts (suc n) small = starts_otherwise (decimal (suc n)) (first_decimal (suc n) (omega arith) small)

decimal_is_number : (n : ℕ) → n < 2 ^ 64 → is_number (decimal n) ≡ true
decimal_is_number n small =
    let some = decimal_nonempty n small in
    let digits : list_all is_ascii_digit (decimal n) ≡ true = digits_decimal own n small in
    grind (arith, nat_tests)

-- a number that is written in decimal is read again
pub numeral_again : (n : ℕ) → n < 2 ^ 64 → numeral_of (decimal n) ≡ Some n
unfolding numeral_of
numeral_again n small =
    rw (decimal_is_number n small, decimal_starts n small, digits_value-decimal own n small) (ap (λ m. Some m) (omega arith))

-- what a word that is read is made of
record IsRead (word : List ℕ) (n : ℕ) : Type 0 where
  some : 0 < length word
  digits : list_all is_ascii_digit word ≡ true
  starts : get_or word 0 0 ≡ 48 → length word ≡ 1
  value : n ≡ min (digits_value 10 word) (2 ^ 64 - 1)

is_read : (word : List ℕ) (n : ℕ) → numeral_of word ≡ Some n → IsRead word n
unfolding numeral_of
is_read word n read = record { some = grind (arith, nat_tests); digits = grind (arith, nat_tests); starts = grind (arith, nat_tests); value = grind (arith, nat_tests) }

-- a numeral is what decimal writes of its value, but where it was cut
pub spelled_as : (word : List ℕ) (n : ℕ) → numeral_of word ≡ Some n → n < 2 ^ 64 - 1 → word ≡ decimal n
spelled_as word n read small =
    let parts = is_read word n read in
    let value : n ≡ digits_value 10 word = omega (arith, parts.value) in
    let spelled = decimal-digits_value own word parts.digits parts.some parts.starts (omega arith) in
    sym spelled ∙ ap decimal (sym value)

-- what is read is below 2^64
pub numeral_small : (word : List ℕ) (n : ℕ) → numeral_of word ≡ Some n → n < 2 ^ 64
numeral_small word n read = let parts = is_read word n read in omega (arith, parts.value)

-- a decimal has digits alone
pub decimal_free : (mark n : ℕ) → n < 2 ^ 64 → ¬ (IsInRange 48 57 mark) → HasNo mark (decimal n)
decimal_free mark n small none =
    let differ = not_in_digits own (decimal n) mark (digits_decimal own n small) none in
    All-from_get_or (λ b. eqb b mark ≡ false) (decimal n) 0 (λ i within. let other = differ i within in grind (arith, nat_tests))
