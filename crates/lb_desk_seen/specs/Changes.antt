-- What is seen after a change is what was seen before it, changed in the same way.
use Rattle.std.specs.Prelude.{◌≡◌, ℕ, ◌+◌, Bool, Some, slice_get, slice_set}
use Rattle.server_state.specs.declared.change.Setting.{Setting}
use Rattle.server_state.specs.Changes.{with_server_as}
use Rattle.lb_desk_model.specs.declared.event.Event.{Event}
use Rattle.lb_desk_model.specs.declared.reply.Reply.{Reply}
use Rattle.lb_desk_model.specs.States.{Checks, ServerState, State, SameView, farm_of, seen_server, view_of, with_server}
use Rattle.lb_desk_model.specs.Servers.{with_result, with_setting}
use Rattle.lb_desk_model.specs.Seen.{Seen, Acts, Next, seen, view_seen}

-- a setting of a server, and of what is seen of it
abbrev pub SettingsAreSeen : Type 0
SettingsAreSeen = (server : ServerState) (setting : Setting)
    → seen_server (with_setting server setting) ≡ Rattle.server_state.specs.Changes.with_setting (seen_server server) setting

-- one result more, and the tally after it
abbrev pub ResultsAreSeen : Type 0
ResultsAreSeen = (server : ServerState) (checks : Checks) (ok : Bool)
    → seen_server (record server { checks = Some (with_result checks ok) })
    ≡ Rattle.server_state.specs.Checks.with_result (seen_server server) checks.rise checks.fall checks.base checks.results ok

-- a server that was changed in all but its name and its connections changes the farm alone
abbrev pub ServersAreSeen : Type 0
ServersAreSeen = (state : State) (i : ℕ) (found changed : ServerState)
    → slice_get state.servers i ≡ Some found → changed.name ≡ found.name → changed.connections ≡ found.connections
    → seen (with_server state i changed) ≡ record (seen state) { farm = with_server_as (farm_of state) i (seen_server changed) }

-- a server whose connections were changed changes their list alone
abbrev pub ConnectionsAreSeen : Type 0
ConnectionsAreSeen = (state : State) (i : ℕ) (found : ServerState) (connections : ℕ)
    → slice_get state.servers i ≡ Some found
    → seen (with_server state i (record found { connections = connections }))
    ≡ record (seen state) { connections = slice_set (seen state).connections i connections }

-- the state's view is the view of what is seen of it
abbrev pub ViewsAreSeen : Type 0
ViewsAreSeen = (state : State) → view_of state ≡ view_seen (seen state)

-- What an event does becomes a step: with the version as it is where the view that is seen stays the same, and one version
-- more where it doesn't
abbrev pub ActsAreCounted : Type 0
ActsAreCounted = (state : State) (event : Event) (reply : Reply) (new : Seen) → Acts state event reply new
    → (SameView (view_seen (seen state)) (view_seen new) → Next state event reply new)
    × ((SameView (view_seen (seen state)) (view_seen new) → ⊥) → Next state event reply (record new { version = new.version + 1 }))
