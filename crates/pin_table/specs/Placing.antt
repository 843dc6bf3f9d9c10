-- How pins go where moves send them: one after another, and with counts that are made before. No public clause cites this module.
use Rattle.std.specs.Prelude.{◌≡◌, ℕ, ◌≤◌, List, sum_by, if◌then◌else◌}
use Rattle.pin_set.specs.declared.pin.PinId.{PinId}
use Rattle.pin_moves.specs.declared.a_move.Move.{Move}
use Rattle.pin_moves.specs.Moves.{moved_with, IsHandedOut}
use Rattle.pin_table.specs.declared.held.Held.{Held}
use Rattle.pin_table.specs.declared.table_kind.TableKind.{TableKind}
use Rattle.pin_table.specs.Kinds.{same_kind}

-- one of the pins like this one is still to go
abbrev pub IsToGo : List Move → PinId → Held → Type 0
IsToGo moves name held = 1 ≤ moved_with moves held.place name.want held.cost

-- the pin went where the old moves had one left, which are the new moves then
pub record Goes (old : List Move) (name : PinId) (held placed : Held) (new : List Move) : Type 0 where
  pub handed : IsHandedOut held.place name.want held.cost placed.place old new
  pub same_cost : placed.cost ≡ held.cost
  pub same_use : placed.last_use ≡ held.last_use

-- the kind that a table gives the moved pins once they have moved
abbrev pub kind_after : Move → TableKind
kind_after m = record { place = m.to; want = m.want; cost = m.cost }

-- how many pins the moves make of this kind
abbrev pub arriving : List Move → TableKind → ℕ
arriving moves kind = sum_by (λ m. if same_kind kind (kind_after m) then m.count else 0) moves
