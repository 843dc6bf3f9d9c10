-- What is left of a plan's rows while they are shared out. No public clause cites this module.
use Rattle.std.specs.Prelude.{◌≡◌, ℕ, ◌<◌, ◌≤◌, true, Option, List, length, slice_index_or, AllPairs}
use Rattle.lb_types_pins.specs.declared.kind.PinKind.{PinKind}
use Rattle.lb_types_pins.specs.declared.kind.Row.{Row}
use Rattle.lb_types_pins.specs.Kinds.{row_before, place_before}

-- the rows stand in strictly rising order, and of each kind the first ones are used up first
pub record AreInOrder (left : List Row) : Type 0 where
  pub rising : AllPairs (λ a b. row_before a b ≡ true) left
  pub used : AllPairs (λ a b. a.kind ≡ b.kind → 1 ≤ a.count → 1 ≤ b.count) left

-- what is left of this kind goes to later places
abbrev pub GoesBehind : List Row → PinKind → Option ℕ → Type 0
GoesBehind left kind place = (k : ℕ) (d : Row) → k < length left → (slice_index_or left k d).kind ≡ kind
    → 1 ≤ (slice_index_or left k d).count → place_before place (slice_index_or left k d).new_place ≡ true
