-- When a checked server is up: HAProxy Configuration Manual 2.8, section 5.2 (`rise`, `fall`): up once `rise` checks in
-- a row have succeeded, down once `fall` in a row have failed. Our own, since the manual is vague there: at the start
-- and when maintenance ends, the server counts as up and is one failure from down; a forced health counts as if the
-- results for it had come.
use Rattle.std.specs.Prelude.{◌≡◌, ℕ, ◌-◌, None, Bool, true, false, not, ◌||◌, List, ◌++◌, length, take, reverse, filter, replicate, if◌then◌else◌}
use Rattle.std.specs.Bool.{beq}
use Rattle.std.specs.List.{starts_with, range_with_len, last_or, prefix_len}
use Rattle.std.specs.Option.{option_map_or}
use Rattle.rise_fall.specs.Tally.{Tally}
use Rattle.rise_fall.specs.declared.flip.Flip.{Flip}
use Rattle.rise_fall.specs.declared.flip.Flip.TheVariants.{Stays, WentUp, WentDown}

-- where a list of results begins: at the start or the end of maintenance, or where the health was forced
pub data Base : Type 0 where
  fresh : Base
  forced_up : Base
  forced_down : Base

-- the base of a health that is forced
abbrev pub forced : Bool → Base
forced up = if up then forced_up else forced_down

-- the results that are taken to stand before the first one
abbrev pub before : ℕ → ℕ → Base → List Bool
before rise fall fresh = replicate (fall - 1) false
before rise fall forced_up = replicate rise true
before rise fall forced_down = replicate fall false

-- the last `count` results are all `ok`: read backwards, the list begins with `count` times `ok`
abbrev pub ends_in : Bool → ℕ → List Bool → Bool
ends_in ok count results = starts_with beq (reverse results) (replicate count ok)

-- the `rise` results that end at position n are all successes. Position n stands behind the first n results
abbrev pub is_success : ℕ → List Bool → ℕ → Bool
is_success rise results n = ends_in true rise (take n results)

-- the `fall` results that end at position n are all failures
abbrev pub is_failure : ℕ → List Bool → ℕ → Bool
is_failure fall results n = ends_in false fall (take n results)

-- the success and failure positions among the first n positions, in order
abbrev pub decisive : ℕ → ℕ → List Bool → ℕ → List ℕ
decisive rise fall results n =
    filter (λ k. is_success rise results k || is_failure fall results k) (range_with_len 1 n)

-- the last such position is a success position, or there is none
unfoldable pub ends_up : ℕ → ℕ → List Bool → Bool
ends_up rise fall results =
    option_map_or (is_success rise results) (last_or None (decisive rise fall results (length results))) true

-- the server is up after these results since this base
abbrev pub is_up : ℕ → ℕ → Base → List Bool → Bool
is_up rise fall base results = ends_up rise fall (before rise fall base ++ results)

-- how the server counted before, and how it counts now
abbrev pub flip_between : Bool → Bool → Flip
flip_between true true = Stays
flip_between false false = Stays
flip_between false true = WentUp
flip_between true false = WentDown

-- what a health shows that took these results since this base: its settings, how it counts, and the run of other
-- results at the end. That run is the code's own: it is here so that a health is the same value wherever it stands for
-- the same base and results, and no promise of when a server is up rests on it, since those speak of `is_up` alone
abbrev pub tally_after : ℕ → ℕ → Base → List Bool → Tally
tally_after rise fall base results = record {
  rise = rise;
  fall = fall;
  up = is_up rise fall base results;
  against = prefix_len (beq (not (is_up rise fall base results))) (reverse (before rise fall base ++ results));
}

-- the health is that of a server with these settings that had these results since this base. Each health stands for
-- some base and results: `each_health_has_its_results`
abbrev pub StandsFor : Tally → ℕ → ℕ → Base → List Bool → Type 0
StandsFor health rise fall base results = health ≡ tally_after rise fall base results
