-- How last uses stand in the table, in every history.
use Rattle.std.specs.Prelude.{◌≤◌, List, All, AllPairs}
use Rattle.lb_desk_model.specs.declared.entry.Entry.{Entry}
use Rattle.lb_desk_model.specs.Backends.{BackendParts}
use Rattle.lb_desk_model.specs.Histories.{History}
use Rattle.lb_desk_model.specs.States.{State, opening}

-- no pin was used before one that stands ahead of it, and none after the latest moment
pub record AreInOrderOfUse (state : State) : Type 0 where
  pub rising : AllPairs (λ a b. a.last_use ≤ b.last_use) state.pins
  pub bounded : All (λ p. p.last_use ≤ state.latest) state.pins

abbrev pub PinsAreInOrderOfUse : Type 0
PinsAreInOrderOfUse = (backend : BackendParts) (entries : List Entry) (state : State)
    → History (opening backend) entries state → AreInOrderOfUse state
