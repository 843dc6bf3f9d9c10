-- Which events change the view, and so the version: their replies tell it, beside the servers before and after.
use Rattle.std.specs.Prelude.{◌≡◌, ◌⊎◌, ◌↔◌, ◌+◌, List}
use Rattle.server_state.specs.Farm.{FarmView, usable, capacity_of}
use Rattle.server_state.specs.declared.checked.Checked.TheVariants.{Took}
use Rattle.lb_desk_model.specs.declared.entry.Entry.{Entry}
use Rattle.lb_desk_model.specs.declared.event.Event.{Event}
use Rattle.lb_desk_model.specs.declared.event.Event.TheVariants.{Command}
use Rattle.lb_desk_model.specs.declared.reply.Reply.{Reply}
use Rattle.lb_desk_model.specs.declared.reply.Reply.TheVariants.{Served, Pinned, Cleared, Expired, Checked, Done, Installed}
use Rattle.lb_desk_model.specs.declared.reply.PinnedAs.TheVariants as Put
use Rattle.lb_desk_model.specs.declared.reply.ServedAs.TheVariants.{Moved, Made}
use Rattle.lb_desk_model.specs.Backends.{BackendParts}
use Rattle.lb_desk_model.specs.Histories.{History}
use Rattle.lb_desk_model.specs.Seen.{Seen, Acts, seen, view_seen}
use Rattle.lb_desk_model.specs.States.{State, SameView, farm_of, opening}
use Rattle.lb_desk_model.specs.Steps.{Step}

-- the same servers are usable
abbrev pub SameUsable : FarmView → FarmView → Type 0
SameUsable before after = usable after ≡ usable before

-- the event with this reply leaves the view as it is, where these are the servers before and after it
abbrev pub KeepsView : FarmView → Event → Reply → FarmView → Type 0
-- a pin is at another place than before, or wasn't there
KeepsView before event (Served server Moved) after = ⊥
KeepsView before event (Served server Made) after = ⊥
KeepsView before event (Pinned Put.Moved) after = ⊥
KeepsView before event (Pinned Put.Made) after = ⊥
-- a pin went
KeepsView before event Cleared after = ⊥
-- no pin went
KeepsView before event (Expired count) after = count ≡ 0
KeepsView before event (Checked (Took flip)) after = SameUsable before after
KeepsView before (Command change) Done after =
    SameUsable before after × (capacity_of after change.server ≡ capacity_of before change.server)
-- no pin was moved
KeepsView before event (Installed score) after = score.moved ≡ 0
-- a pin that was kept, a request without one, a set without a table, a clear without a pin, connections, results that were ignored,
-- sheets and refusals
KeepsView before event reply after = Unit {0}

-- what an event does behind a history leaves the view that is seen exactly where its reply says so
abbrev pub RepliesTellViews : Type 0
RepliesTellViews = (backend : BackendParts) (log : List Entry) (state : State) (event : Event) (reply : Reply) (new : Seen)
    → History (opening backend) log state → Acts state event reply new
    → SameView (view_seen (seen state)) (view_seen new) ↔ KeepsView (farm_of state) event reply new.farm

-- so the version stays, or is one more
abbrev pub RepliesTellVersions : Type 0
RepliesTellVersions = (backend : BackendParts) (log : List Entry) (old : State) (event : Event) (reply : Reply) (new : State)
    → History (opening backend) log old → Step old event reply new
    → (KeepsView (farm_of old) event reply (farm_of new) × (new.version ≡ old.version))
    ⊎ ((KeepsView (farm_of old) event reply (farm_of new) → ⊥) × (new.version ≡ old.version + 1))
