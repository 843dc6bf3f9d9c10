-- Laws of sets of servers.
use Rattle.std.proofs.Common.{◌≡◌, ◌≢◌, ℕ, zero, suc, ◌+◌, ◌*◌, ◌/◌, ◌%◌, ◌^◌, ◌<◌, ◌≤◌, Bool, true, false, ◌&&◌, ◌||◌, eqb, cond, List, [], ◌∷◌, ◌++◌, length, refl, sym, ap, ◌∙◌, inl, inr, arith, min, max, bit_and, bit_or}
use Rattle.std.specs.Int.{bit_at, Width, w128}
use Rattle.std.specs.Prelude.{count_ones}
use Rattle.std.proofs.lemmas.Bool.{cases_eq}
use Rattle.std.proofs.lemmas.Bool.Decides.{nat_tests}
use Rattle.std.proofs.lemmas.Nat.Bits.{bit_at_and, bit_at_or, bit_at-lt, bit_at-zero, bit_at-pow_same, bit_at-pow_other, same_from_bits, bit_at_lowest, bit_at-suc}
use Rattle.lb_types.specs.Servers.{has, meet, union, with_server, members_below, members}

pub has-empty : (s : ℕ) → has 0 s ≡ false
unfolding has
has-empty s = let e = bit_at-zero s in grind (arith, nat_tests)

pub has-meet : (a b s : ℕ) → has (meet a b) s ≡ (has a s && has b s)
unfolding has
has-meet a b s =
    let e = bit_at_and a b s in
    let in_a = bit_at-lt a s in
    let in_b = bit_at-lt b s in
    grind (arith, nat_tests)

pub has-union : (a b s : ℕ) → has (union a b) s ≡ (has a s || has b s)
unfolding has
has-union a b s =
    let e = bit_at_or a b s in
    let in_a = bit_at-lt a s in
    let in_b = bit_at-lt b s in
    grind (arith, nat_tests)

pub has-with : (set server s : ℕ) → has (with_server set server) s ≡ (eqb s server || has set s)
unfolding has
has-with set server s =
    let e = bit_at_or set (2 ^ server) s in
    let in_set = bit_at-lt set s in
    elim (cases_eq s server) [
      | inl same ↦ let one : bit_at (2 ^ server) s ≡ 1 = rw same (bit_at-pow_same server) in grind (arith, nat_tests)
      | inr other ↦ let none = bit_at-pow_other server s other in grind (arith, nat_tests)
    ]

-- sets with the same servers are one set
pub same_sets : (a b : ℕ) → ((s : ℕ) → has a s ≡ has b s) → a ≡ b
unfolding has
same_sets a b same =
    same_from_bits a b (λ i. let e = same i in let in_a = bit_at-lt a i in let in_b = bit_at-lt b i in grind (arith, nat_tests))
