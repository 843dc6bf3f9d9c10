-- What is seen of a state that was changed.
use Rattle.std.proofs.Common.{◌≡◌, ℕ, ◌+◌, Bool, true, false, Option, Some, None, List, [], ◌∷◌, map, slice_get, slice_set, refl, sym, ap, ◌∙◌, subst, if◌then◌else◌, inl, inr}
use Rattle.std.specs.List.{zip}
use Rattle.std.specs.Option.{option_map}
use Rattle.std.proofs.lemmas.List.{map-set}
use Rattle.std.proofs.lemmas.Option.{get_or_from_slice_get}
use Rattle.std.proofs.Math.Seq.{map-set_same}
use Rattle.rise_fall.specs.Tally.{Tally}
use Rattle.pin_set.specs.declared.view.ViewServer.{ViewServer}
use Rattle.pin_set.specs.Views.{ViewParts, view_of_parts}
use Rattle.server_state.specs.declared.change.Setting.TheVariants.{Admin, Health, Weight, MaxConnections, MaxPins}
use Rattle.server_state.specs.Farm.{FarmView}
use Rattle.server_state.specs.Server.{ServerView}
use Rattle.pin_set.specs.declared.table_pin.TablePin.{TablePin}
use Rattle.lb_desk_model.specs.States.{Checks, ServerState, State, SameView, farm_of, health_of, seen_server, usable, view_of, view_server, with_server}
use Rattle.lb_desk_model.specs.Servers.{rewarmed, forced_to, leaves_maint}
use Rattle.lb_desk_model.specs.Seen.{Seen, named_server, seen, view_seen}
use Rattle.lb_desk_law.proofs.Versions.{does-version}
use Rattle.lb_desk_seen.specs.Changes.{SettingsAreSeen, ResultsAreSeen, ServersAreSeen, ConnectionsAreSeen, ViewsAreSeen, ActsAreCounted}

abbrev seen_health : Option Checks → Option Tally
seen_health checks = option_map health_of checks

-- ---- one server

seen_rewarmed : (test : Bool) (checks : Option Checks)
    → seen_health (if test then option_map rewarmed checks else checks)
    ≡ (if test then option_map Rattle.server_state.specs.Changes.rewarmed (seen_health checks) else seen_health checks)
seen_rewarmed true (Some checks) = refl
seen_rewarmed true None = refl
seen_rewarmed false checks = refl

seen_forced : (up : Bool) (checks : Option Checks)
    → seen_health (option_map (forced_to up) checks) ≡ option_map (Rattle.server_state.specs.Changes.forced_to up) (seen_health checks)
seen_forced up (Some checks) = refl
seen_forced up None = refl

abbrev with_health : ServerView → Option Tally → ServerView
with_health server health = record server { health = health }

pub settings_are_seen : SettingsAreSeen
settings_are_seen server (Admin admin) =
    ap (with_health (record (seen_server server) { admin = admin })) (seen_rewarmed (leaves_maint server admin) server.checks)
settings_are_seen server (Health up) = ap (with_health (seen_server server)) (seen_forced up server.checks)
settings_are_seen server (Weight weight) = refl
settings_are_seen server (MaxConnections limit) = refl
settings_are_seen server (MaxPins limit) = refl

pub results_are_seen : ResultsAreSeen
results_are_seen server checks ok = refl

-- ---- one of them

pub map_same : {A B : Type 0} (f : A → B) (xs : List A) (i : ℕ) (x y : A) → slice_get xs i ≡ Some x → f y ≡ f x
    → map f (slice_set xs i y) ≡ map f xs
map_same f xs i x y found same =
    map-set_same f xs i y x (same ∙ ap f (sym (get_or_from_slice_get xs i x x found)))

abbrev parts : State → List (List ℕ) → FarmView → List ℕ → Seen
parts state names farm connections = record (seen state) { names = names; farm = farm; connections = connections }

abbrev farm_with : State → List ServerView → FarmView
farm_with state servers = record { servers = servers; all_backups = state.all_backups }

pub servers_are_seen : ServersAreSeen
servers_are_seen state i found changed at named connected =
    let changed_counts = map (λ (s : ServerState). s.connections) (slice_set state.servers i changed) in
    let names = map_same (λ (s : ServerState). s.name) state.servers i found changed at named in
    let counts = map_same (λ (s : ServerState). s.connections) state.servers i found changed at connected in
    let farm = map-set seen_server state.servers i changed in
    ap (λ (ns : List (List ℕ)). parts state ns (farm_of (with_server state i changed)) changed_counts) names
    ∙ (ap (λ (cs : List ℕ). parts state (seen state).names (farm_of (with_server state i changed)) cs) counts
    ∙ ap (λ (vs : List ServerView). parts state (seen state).names (farm_with state vs) (seen state).connections) farm)

pub connections_are_seen : ConnectionsAreSeen
connections_are_seen state i found connections at =
    let changed : ServerState = record found { connections = connections } in
    let counts = map-set (λ (s : ServerState). s.connections) state.servers i changed in
    let changed_counts = map (λ (s : ServerState). s.connections) (slice_set state.servers i changed) in
    let names = map_same (λ (s : ServerState). s.name) state.servers i found changed at refl in
    let farm = map_same seen_server state.servers i found changed at refl in
    ap (λ (ns : List (List ℕ)). parts state ns (farm_of (with_server state i changed)) changed_counts) names
    ∙ (ap (λ (vs : List ServerView). parts state (seen state).names (farm_with state vs) changed_counts) farm
    ∙ ap (λ (cs : List ℕ). parts state (seen state).names (farm_of state) cs) counts)

-- ---- the view

named_servers : (servers : List ServerState)
    → map view_server servers ≡ map named_server (zip (map (λ (s : ServerState). s.name) servers) (map seen_server servers))
named_servers [] = refl
named_servers (s ∷ servers) = ap (λ (vs : List ViewServer). view_server s ∷ vs) (named_servers servers)

pub views_are_seen : ViewsAreSeen
views_are_seen state =
    ap (λ (vs : List ViewServer). view_of_parts (usable state) vs (map (λ (p : TablePin). p.pin) state.pins)) (named_servers state.servers)

-- ---- steps

pub views_shown : (state acted : State) (new : Seen) → seen acted ≡ new
    → SameView (view_seen (seen state)) (view_seen new) ≡ SameView (view_of state) (view_of acted)
views_shown state acted new shown =
    let there : view_seen new ≡ view_of acted = ap view_seen (sym shown) ∙ sym (views_are_seen acted) in
    ap (λ (v : ViewParts). SameView v (view_seen new)) (sym (views_are_seen state))
    ∙ ap (λ (v : ViewParts). SameView (view_of state) v) there

counted_more : (state acted : State) (new : Seen) → seen acted ≡ new → acted.version ≡ state.version
    → seen (record acted { version = state.version + 1 }) ≡ record new { version = new.version + 1 }
counted_more state acted new shown kept =
    ap (λ (v : ℕ). record (seen acted) { version = v + 1 }) (sym kept) ∙ ap (λ (s : Seen). record s { version = s.version + 1 }) shown

pub acts_are_counted : ActsAreCounted
acts_are_counted state event reply new a =
    let kept = does-version state event reply a.acted a.does in
    let views = views_shown state a.acted new a.shown in (
      λ same.
          let there : SameView (view_of state) (view_of a.acted) = subst (λ (X : Type 0). X) views same in
          record { next = a.acted; step = record { acted = a.acted; does = a.does; counts = inl (there, refl) }; shown = a.shown },
      λ differ.
          let there : SameView (view_of state) (view_of a.acted) → ⊥ = λ same. differ (subst (λ (X : Type 0). X) (sym views) same) in
          record {
            next = record a.acted { version = state.version + 1 };
            step = record { acted = a.acted; does = a.does; counts = inr (there, refl) };
            shown = counted_more state a.acted new a.shown kept;
          },
    )
