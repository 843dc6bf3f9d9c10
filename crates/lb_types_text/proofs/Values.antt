-- Digits read one after another.
use Rattle.std.proofs.Common.{◌≡◌, ℕ, ◌+◌, ◌*◌, ◌<◌, ◌≤◌, Some, None, List, length, get_or, take, arith}
use Rattle.std.specs.Char.{digit_value}
use Rattle.std.specs.Str.Parse.{digits_value}
use Rattle.std.proofs.lemmas.Bool.Decides.{nat_tests}
use Rattle.std.proofs.lemmas.Int.Digits.{digits_value_more}
use Rattle.std.proofs.lemmas.List.{take_all}
use Rattle.std.proofs.lemmas.Str.Parse.{digits_value-take-le}
use Rattle.lb_types_text.specs.Numbers.{within_64_bits}

-- once the digits so far are too large, all of them are
pub too_large : (word : List ℕ) (i n : ℕ) → i < length word → Some n ≡ within_64_bits (digits_value 10 (take i word)) → None ≡ within_64_bits (n * 10 + digit_value (get_or word i 0)) → None ≡ within_64_bits (digits_value 10 word)
too_large word i n within so_far none =
    let more = digits_value_more 10 word i within in
    let less = digits_value-take-le 10 word (i + 1) (omega arith) in
    grind (arith, nat_tests)

-- one digit more
pub digit_more : (word : List ℕ) (i n m : ℕ) → i < length word → Some n ≡ within_64_bits (digits_value 10 (take i word)) → Some m ≡ within_64_bits (n * 10 + digit_value (get_or word i 0)) → Some m ≡ within_64_bits (digits_value 10 (take (i + 1) word))
digit_more word i n m within so_far next =
    let more = digits_value_more 10 word i within in
    let same : n ≡ digits_value 10 (take i word) = grind (arith, nat_tests) in
    rw (more, ← same) next

-- all digits
pub all_digits : (word : List ℕ) (i n : ℕ) → length word ≤ i → Some n ≡ within_64_bits (digits_value 10 (take i word)) → Some n ≡ within_64_bits (digits_value 10 word)
all_digits word i n past so_far = rw (take_all i word past) at so_far
