-- What a check's result does to each state of a farm.
use Rattle.std.proofs.lemmas.List.{set-get_or}
use Rattle.std.proofs.lemmas.Option.{get_or_from_slice_get, none-some}
use Rattle.std.proofs.Common.{◌≡◌, ℕ, Bool, true, false, not, eqb, Option, Some, None, List, map, slice_get, slice_set, refl, sym, ap, ◌∙◌, subst, Result, Ok, Err}
use Rattle.std.specs.Option.{option_map}
use Rattle.rise_fall.specs.Health.{flip_between}
use Rattle.server_state.specs.declared.change.ChangeFault.{ChangeFault}
use Rattle.server_state.specs.declared.change.ChangeFault.TheVariants.{NoSuchServer, NotChecked}
use Rattle.server_state.specs.declared.checked.Checked.{Checked}
use Rattle.server_state.specs.declared.checked.Checked.TheVariants.{Took, Ignored}
use Rattle.server_state.specs.Changes.{with_server_as}
use Rattle.server_state.specs.Checks.{TakesResult, check_fault, check_fault_at, flip_of}
use Rattle.server_state.specs.Checks.{Checks as ChecksFarm}
use Rattle.server_state.specs.Checks.{with_result as with_result_seen}
use Rattle.server_state.specs.Farm.{FarmView}
use Rattle.server_state.specs.Farm.{usable}
use Rattle.server_state.specs.Server.{ServerView, is_maint}
use Rattle.lb_desk_model.specs.declared.event.Event.{Event}
use Rattle.lb_desk_model.specs.declared.event.Event.TheVariants.{Check}
use Rattle.lb_desk_model.specs.declared.reply.Reply.{Reply}
use Rattle.lb_desk_model.specs.Seen.{Seen, Acts, Next, seen}
use Rattle.lb_desk_model.specs.Servers.{IgnoresResult, is_healthy, with_result}
use Rattle.lb_desk_model.specs.States.{Checks, ServerState, State, farm_of, health_of, seen_server, view_server, with_server}
use Rattle.lb_desk_model.specs.Steps.{Does}
use Rattle.lb_desk_servers.specs.Replies.{reply_of_check}
use Rattle.lb_desk_servers.specs.Shown.{StepsAtFarm, counted}
use Rattle.lb_desk_servers.proofs.Changed.{get_seen, map_same, settings_seen, with_farm}
use Rattle.lb_desk_servers.proofs.Versions.{Keeps, steps_at_farm, unchanged}

set_same : {A : Type 0} (xs : List A) (i : ℕ) (x : A) → slice_get xs i ≡ Some x → slice_set xs i x ≡ xs
set_same xs i x found = ap (slice_set xs i) (sym (get_or_from_slice_get xs i x x found)) ∙ set-get_or xs i x

farm_same : (state : State) (server : ℕ) (found : ServerState) → slice_get state.servers server ≡ Some found
    → with_server_as (farm_of state) server (seen_server found) ≡ farm_of state
farm_same state server found at =
    ap (λ (vs : List ServerView). record (farm_of state) { servers = vs })
    (set_same (farm_of state).servers server (seen_server found) (get_seen state server (Some found) at))

-- a checked server takes the result, or is in maintenance and ignores it
at_checked : (state : State) (server : ℕ) (ok : Bool) (found : ServerState) (checks : Checks) (after : ServerView) (new : FarmView)
    (checked : Checked) (maint : Bool) → slice_get state.servers server ≡ Some found → found.checks ≡ Some checks → is_maint found.admin ≡ maint
    → TakesResult (seen_server found) after (Ok checked) ok → new ≡ with_server_as (farm_of state) server after
    → Keeps state (Check server ok) (Reply.Checked checked) new (Unit {0})
at_checked state server ok found checks after new checked true at has maint takes is =
    let ignored = takes.ignored maint (rw has refl) in
    let reply : checked ≡ Ignored = cc in
    let same : new ≡ farm_of state = is ∙ (ap (with_server_as (farm_of state) server) ignored.1 ∙ farm_same state server found at) in
    let does : IgnoresResult state server = record { found = found; is = at; checks = checks; checked = has; unwatched = maint } in
    rw reply (unchanged state (Check server ok) (Reply.Checked Ignored) new (Unit {0}) same (does, refl))
at_checked state server ok found checks after new checked false at has watched takes is =
    let taken = takes.taken checks.rise checks.fall checks.base checks.results watched (ap (option_map health_of) has) in
    let flip = flip_between (is_healthy checks) (is_healthy (with_result checks ok)) in
    let reply : checked ≡ Took flip = cc in
    let changed : ServerState = record found { checks = Some (with_result checks ok) } in
    let keeps : Keeps state (Check server ok) (Reply.Checked (Took flip)) new (Unit {0}) = record {
      acts = record {
        acted = with_server state server changed;
        does = record { found = found; is = at; checks = checks; checked = has; watched = watched; flip_is = refl; new_is = refl };
        shown = settings_seen state server found changed after at refl refl (sym taken.1) ∙ ap (with_farm (seen state)) (sym is);
      };
      pins = refl;
      servers = λ holds. map_same view_server state.servers server found changed at refl;
    } in
    rw reply keeps

check_keeps : (state : State) (server : ℕ) (ok : Bool) (new : FarmView) (result : Result Checked ChangeFault)
    → ChecksFarm (farm_of state) new result server ok → Keeps state (Check server ok) (reply_of_check result) new (Unit {0})
check_keeps state server ok new (Err fault) c =
    unchanged state (Check server ok) (reply_of_check (Err fault)) new (Unit {0}) c.err ((fault, sym c.fault, refl), refl)
check_keeps state server ok new (Ok checked) c = go (slice_get state.servers server) refl
  where
    checked_at : (found : ServerState) → slice_get state.servers server ≡ Some found → (o : Option Checks) → found.checks ≡ o
        → Keeps state (Check server ok) (Reply.Checked checked) new (Unit {0})
    checked_at found at None lacks = absurd (none-some NotChecked (rw (get_seen state server (Some found) at, lacks) at c.fault))
    checked_at found at (Some checks) has =
        let there = c.found (seen_server found) (get_seen state server (Some found) at) in
        at_checked state server ok found checks there.0 new checked (is_maint found.admin) at has refl there.1 there.2

    go : (o : Option ServerState) → slice_get state.servers server ≡ o → Keeps state (Check server ok) (Reply.Checked checked) new (Unit {0})
    go None at = absurd (none-some NoSuchServer (rw (get_seen state server None at) at c.fault))
    go (Some found) at = checked_at found at found.checks refl

pub check_steps : (old new : FarmView) (result : Result Checked ChangeFault) (server : ℕ) (ok : Bool) → ChecksFarm old new result server ok
    → StepsAtFarm old (Check server ok) (record { reply = reply_of_check result; changes_view = not (eqb (usable new) (usable old)) }) new
check_steps old new result server ok checks =
    steps_at_farm old new (Check server ok) (reply_of_check result) true (Unit {0})
    (record { holds = λ e. tt; passes = λ state acted there farms same. refl })
    (λ state there. check_keeps state server ok new result (rw there checks))
