-- What is left of a plan's rows while pins are spread over them. No public clause cites this module.
use Rattle.std.specs.Prelude.{◌≡◌, ℕ, ◌+◌, ◌<◌, ◌≤◌, Bool, true, Option, List, length, drop, slice_index_or, AllPairs, sum_by, count_by, if◌then◌else◌}
use Rattle.std.specs.List.{zip}
use Rattle.lb_types_pins.specs.declared.kind.PinKind.{PinKind}
use Rattle.lb_types_pins.specs.declared.kind.Row.{Row}
use Rattle.lb_types_pins.specs.Kinds.{same_kind, row_before}
use Rattle.pin_set.specs.Rows.{is_move, sent}

-- the rows stand in strictly rising order
abbrev pub AreRisingRows : List Row → Type 0
AreRisingRows rows = AllPairs (λ a b. row_before a b ≡ true) rows

-- the row's pins are of this kind
abbrev pub is_of : PinKind → Row → Bool
is_of kind row = same_kind kind row.kind

-- the row sends pins of this kind to this place
abbrev pub sends : PinKind → Option ℕ → Row → Bool
sends kind to row = is_move kind to (row.kind, row.new_place)

-- how many pins the rows that pass the test have left, where `left` says it of each row
abbrev pub left_in : (Row → Bool) → List Row → List ℕ → ℕ
left_in test rows left = sum_by (λ m. if test m.0 then m.1 else 0) (zip rows left)

-- each row has a mark, and from the row up to its mark no row has pins left
pub record AreUsedUp (left used_to : List ℕ) : Type 0 where
  pub whole : length used_to ≡ length left
  pub none : (row k : ℕ) → row ≤ k → k < slice_index_or used_to row 0 → slice_index_or left k 0 ≡ 0

-- The first pins have places, and what is left of the rows is for the pins behind them: as many of each kind, and to each
-- place what the rows send there less what went there already.
pub record IsSpread (rows : List Row) (kinds : List PinKind) (left : List ℕ) (places : List (Option ℕ)) : Type 0 where
  pub whole : length left ≡ length rows
  pub to_come : (kind : PinKind) → count_by (same_kind kind) (drop (length places) kinds) ≡ left_in (is_of kind) rows left
  pub given : (kind : PinKind) (to : Option ℕ)
      → count_by (is_move kind to) (zip kinds places) + left_in (sends kind to) rows left ≡ sent rows kind to
