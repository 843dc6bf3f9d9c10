-- Tables of numbers by option and group, in one list.
use Rattle.std.proofs.Common.{◌≡◌, get_or, set, ℕ, ◌+◌, ◌*◌, ◌<◌, ◌≢◌, List, length, refl, arith, get_or-set_same, get_or-set_other}
use Rattle.std.proofs.lemmas.Nat.{same_from_place, mul-add-lt}
use Rattle.flow_planner_net.specs.States.{used_of, at}

-- the place of an option and a group
pub place-lt : (width height o g : ℕ) → o < height → g < width → o * width + g < height * width
place-lt width height o g option group = omega (arith, mul-add-lt o width g height option group)

-- what stands at the place that is read
pub used_of-is : (width : ℕ) (counts : List ℕ) (o g : ℕ) → used_of width counts o g ≡ get_or counts (o * width + g) 0
unfolding used_of
used_of-is width counts o g = refl

-- a table with one place changed
pub record IsSet {X : Type 0} (width : ℕ) (old new : ℕ → ℕ → X) (o g : ℕ) (x : X) : Type 0 where
  pub here : new o g ≡ x
  pub other_options : (k h : ℕ) → h < width → k ≢ o → new k h ≡ old k h
  pub other_groups : (k h : ℕ) → h < width → h ≢ g → new k h ≡ old k h

pub table-set : {X : Type 0} (d : X) (width : ℕ) (xs : List X) (o g : ℕ) (x : X) → g < width → o * width + g < length xs
    → IsSet width (λ k h. get_or xs (k * width + h) d) (λ k h. get_or (set xs (o * width + g) x) (k * width + h) d) o g x
table-set d width xs o g x group within = record {
  here = get_or-set_same xs (o * width + g) x d within;
  other_options = λ k h below ne. get_or-set_other xs (o * width + g) (k * width + h) x d (λ same. ne (same_from_place k h o g width below group same).0);
  other_groups = λ k h below ne. get_or-set_other xs (o * width + g) (k * width + h) x d (λ same. ne (same_from_place k h o g width below group same).1);
}

pub used_of-set : (width : ℕ) (counts : List ℕ) (o g n : ℕ) → g < width → o * width + g < length counts
    → IsSet width (used_of width counts) (used_of width (set counts (o * width + g) n)) o g n
unfolding used_of
used_of-set width counts o g n group within =
    let changed = table-set 0 width counts o g n group within in
    record { here = changed.here; other_options = changed.other_options; other_groups = changed.other_groups }

pub at-same : (numbers : List ℕ) (o n : ℕ) → o < length numbers → at (set numbers o n) o ≡ n
unfolding at
at-same numbers o n within = get_or-set_same numbers o n 0 within

pub at-other : (numbers : List ℕ) (o k n : ℕ) → k ≢ o → at (set numbers o n) k ≡ at numbers k
unfolding at
at-other numbers o k n ne = get_or-set_other numbers o k n 0 ne

pub at-read : (numbers : List ℕ) (o : ℕ) → get_or numbers o 0 ≡ at numbers o
unfolding at
at-read numbers o = refl
