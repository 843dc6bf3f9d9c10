-- How many servers a set holds is how many ones its number has.
use Rattle.std.proofs.Common.{◌≡◌, ℕ, zero, suc, ◌+◌, ◌/◌, ◌%◌, ◌^◌, ◌<◌, Bool, true, false, cond, eqb, List, [], ◌∷◌, ◌++◌, length, refl, sym, ◌∙◌, add-one, arith}
use Rattle.std.proofs.lemmas.List.{length-append}
use Rattle.std.proofs.lemmas.Bool.Decides.{nat_tests}
use Rattle.std.proofs.lemmas.Nat.Bits.{bit_at_lowest, bit_at-suc, bit_at-lt}
use Rattle.std.specs.Int.{bit_at}
use Rattle.std.specs.Prelude.{count_ones}
use lib.Count.{ones, ones_in, ones_step}
use lib.Pow.{shr_lt}
use Rattle.lb_types.specs.Servers.{has, members_below, members}

length-one : (b : Bool) (k : ℕ) → length (cond b (k ∷ []) []) ≡ cond b 1 0
length-one true k = refl
length-one false k = refl

-- one place more
length-members_below : (k set : ℕ) → length (members_below (suc k) set) ≡ length (members_below k set) + bit_at set k
unfolding members_below has
length-members_below k set =
    let one = length-one (eqb (bit_at set k) 1) k in
    let small = bit_at-lt set k in
    let both = length-append (members_below k set) (cond (eqb (bit_at set k) 1) (k ∷ []) []) in
    grind (arith, nat_tests)

length-none : (set : ℕ) → length (members_below 0 set) ≡ 0
unfolding members_below
length-none set = refl

-- the lowest bit, and the members of the half
halved : (k set : ℕ) → length (members_below (suc k) set) ≡ set % 2 + length (members_below k (set / 2))
halved zero set =
    omega (arith, length-members_below zero set, bit_at_lowest set, length-none set, length-none (set / 2))
halved (suc k) set =
    omega (arith, length-members_below (suc k) set, halved k set, length-members_below k (set / 2), bit_at-suc set k)

none_set : ones 0 ≡ 0
unfolding ones ones_in
none_set = refl

pub count_ones-members_below : (k set : ℕ) → set < 2 ^ k → count_ones set ≡ length (members_below k set)
count_ones-members_below zero set below =
    let none : set ≡ 0 = omega arith in
    rw none (none_set ∙ sym (length-none 0))
count_ones-members_below (suc k) set below =
    let half : set / 2 < 2 ^ k = shr_lt k 1 (rw add-one below) in
    omega (arith, ones_step set, halved k set, count_ones-members_below k (set / 2) half)
