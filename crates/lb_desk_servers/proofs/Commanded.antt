-- What a command does to each state of a farm.
use Rattle.std.proofs.Common.{◌≡◌, ℕ, Bool, true, not, ◌&&◌, eqb, eq-eqb, Option, Some, None, List, [], ◌∷◌, map, slice_get, slice_set, refl, sym, ap, ◌∙◌, Result, Ok, Err, zero, suc}
use Rattle.std.specs.Option.{option_map_or}
use Rattle.std.proofs.lemmas.Bool.{eqb-true}
use Rattle.std.proofs.lemmas.Option.{none-some}
use Rattle.pin_set.specs.declared.view.ViewServer.{ViewServer}
use Rattle.server_state.specs.declared.change.Change.{Change}
use Rattle.server_state.specs.declared.change.ChangeFault.{ChangeFault}
use Rattle.server_state.specs.declared.change.ChangeFault.TheVariants.{NoSuchServer}
use Rattle.server_state.specs.Changes.{Sets, with_server_as}
use Rattle.server_state.specs.Changes.{with_setting as with_setting_seen}
use Rattle.server_state.specs.Farm.{FarmView, capacity_of, usable}
use Rattle.server_state.specs.Server.{ServerView}
use Rattle.lb_desk_model.specs.declared.event.Event.TheVariants.{Command}
use Rattle.lb_desk_model.specs.declared.reply.Reply.TheVariants.{Done}
use Rattle.lb_desk_model.specs.Servers.{with_setting}
use Rattle.lb_desk_model.specs.Seen.{Seen, seen}
use Rattle.lb_desk_model.specs.States.{ServerState, State, farm_of, seen_server, view_server, with_server}
use Rattle.lb_desk_servers.specs.Replies.{reply_of_change}
use Rattle.lb_desk_servers.specs.Shown.{StepsAtFarm}
use Rattle.lb_desk_servers.proofs.Changed.{get_seen, map_same, setting_connections, setting_name, setting_seen, settings_seen, with_farm}
use Rattle.lb_desk_servers.proofs.Versions.{Decides, Keeps, steps_at_farm, unchanged}

-- the server's capacity is what it was
abbrev IsAsLarge : FarmView → FarmView → ℕ → Type 0
IsAsLarge old new server = capacity_of new server ≡ capacity_of old server

-- a server's capacity can be told from the view
capacity_viewed : (servers : List ServerState) (i : ℕ)
    → option_map_or (λ f. f.max_pins) (slice_get (map seen_server servers) i) 0 ≡ option_map_or (λ v. v.capacity) (slice_get (map view_server servers) i) 0
capacity_viewed [] i = refl
capacity_viewed (s ∷ servers) zero = refl
capacity_viewed (s ∷ servers) (suc i) = capacity_viewed servers i

capacity_found : (servers : List ServerState) (i : ℕ) (found : ServerState) → slice_get servers i ≡ Some found
    → option_map_or (λ f. f.max_pins) (slice_get (map seen_server servers) i) 0 ≡ found.capacity
capacity_found [] i found at = absurd cc
capacity_found (s ∷ servers) zero found at = let is : s ≡ found = cc in ap (λ (x : ServerState). x.capacity) is
capacity_found (s ∷ servers) (suc i) found at = capacity_found servers i found at

get_set : (servers : List ServerState) (i : ℕ) (found changed : ServerState) → slice_get servers i ≡ Some found
    → slice_get (slice_set servers i changed) i ≡ Some changed
get_set [] i found changed at = absurd cc
get_set (s ∷ servers) zero found changed at = refl
get_set (s ∷ servers) (suc i) found changed at = get_set servers i found changed at

abbrev viewed : List ℕ → ℕ → ViewServer
viewed name capacity = record { name = name; capacity = capacity }

-- where the server stays as large, the view has the servers that it had
stays_viewed : (state : State) (i : ℕ) (found changed : ServerState) → slice_get state.servers i ≡ Some found → changed.name ≡ found.name
    → IsAsLarge (farm_of state) (farm_of (with_server state i changed)) i
    → map view_server (slice_set state.servers i changed) ≡ map view_server state.servers
stays_viewed state i found changed at named large =
    let new = capacity_found (slice_set state.servers i changed) i changed (get_set state.servers i found changed at) in
    let room : changed.capacity ≡ found.capacity = sym new ∙ (large ∙ capacity_found state.servers i found at) in
    map_same view_server state.servers i found changed at (λ k. viewed (named k) (room k))

large_as_viewed : (old new : FarmView) (server : ℕ) (state acted : State) → farm_of state ≡ old → farm_of acted ≡ new
    → map view_server acted.servers ≡ map view_server state.servers → IsAsLarge old new server
large_as_viewed old new server state acted there farms same =
    ap (λ (f : FarmView). capacity_of f server) (sym farms)
    ∙ (capacity_viewed acted.servers server
    ∙ (ap (λ (vs : List ViewServer). option_map_or (λ v. v.capacity) (slice_get vs server) 0) same
    ∙ (sym (capacity_viewed state.servers server)
    ∙ ap (λ (f : FarmView). capacity_of f server) there)))

abbrev seen_farm : Seen → FarmView
seen_farm s = s.farm

command_keeps : (old : FarmView) (state : State) (change : Change) (new : FarmView) (result : Result (Unit {0}) ChangeFault) → farm_of state ≡ old
    → Sets (farm_of state) new result change.server change.setting
    → Keeps state (Command change) (reply_of_change result) new (IsAsLarge old new change.server)
command_keeps old state change new (Err fault) there c =
    unchanged state (Command change) (reply_of_change (Err fault)) new (IsAsLarge old new change.server) c.err ((fault, sym c.fault, refl), refl)
command_keeps old state change new (Ok made) there c = go (slice_get state.servers change.server) refl
  where
    go : (o : Option ServerState) → slice_get state.servers change.server ≡ o
        → Keeps state (Command change) Done new (IsAsLarge old new change.server)
    go None at = absurd (none-some NoSuchServer (rw (get_seen state change.server None at) at c.fault))
    go (Some found) at =
        let i = change.server in
        let changed = with_setting found change.setting in
        let after = with_setting_seen (seen_server found) change.setting in
        let named = setting_name found change.setting in
        let set : new ≡ with_server_as (farm_of state) i after = rw (get_seen state i (Some found) at) at c.ok in
        let shown = settings_seen state i found changed after at named (setting_connections found change.setting) (setting_seen found change.setting) in
        let is : new ≡ farm_of (with_server state i changed) = set ∙ sym (ap seen_farm shown) in
        let room : FarmView → ℕ = λ f. capacity_of f i in
        record {
          acts = record {
            acted = with_server state i changed;
            does = record { found = found; is = at; no_fault = sym c.fault; new_is = refl };
            shown = shown ∙ ap (with_farm (seen state)) (sym set);
          };
          pins = refl;
          servers = λ large. stays_viewed state i found changed at named (ap room (sym is) ∙ (large ∙ ap room (sym there)));
        }

pub command_steps : (old new : FarmView) (result : Result (Unit {0}) ChangeFault) (change : Change) → Sets old new result change.server change.setting
    → StepsAtFarm old (Command change) (record {
      reply = reply_of_change result;
      changes_view = not (eqb (capacity_of new change.server) (capacity_of old change.server) && eqb (usable new) (usable old));
    }) new
command_steps old new result change sets =
    let i = change.server in
    let decides : Decides old new (eqb (capacity_of new i) (capacity_of old i)) (IsAsLarge old new i) = record {
      holds = eqb-true (capacity_of new i) (capacity_of old i);
      passes = λ state acted there farms same. eq-eqb (capacity_of new i) (capacity_of old i) (large_as_viewed old new i state acted there farms same);
    } in
    steps_at_farm old new (Command change) (reply_of_change result) (eqb (capacity_of new i) (capacity_of old i)) (IsAsLarge old new i) decides
    (λ state there. command_keeps old state change new result there (rw there sets))
