-- From what an event does to a step, with the version counted.
use Rattle.std.proofs.Common.{◌≡◌, ℕ, ◌+◌, Bool, true, false, not, ◌&&◌, eqb, eq-eqb, List, map, refl, sym, ap, ◌∙◌, subst, inl, inr}
use Rattle.std.specs.List.Sorted.{IsPermutation}
use Rattle.std.proofs.lemmas.Bool.{eqb-true, false≢true}
use Rattle.std.proofs.lemmas.List.Sorted.{IsPermutation-refl}
use Rattle.pin_set.specs.declared.pin.Pin.{Pin}
use Rattle.server_state.specs.Farm.{FarmView}
use Rattle.server_state.specs.Farm.{usable as usable_of}
use Rattle.lb_desk_model.specs.declared.event.Event.{Event}
use Rattle.lb_desk_model.specs.declared.reply.Reply.{Reply}
use Rattle.pin_set.specs.declared.table_pin.TablePin.{TablePin}
use Rattle.lb_desk_model.specs.Seen.{Seen, Acts, Next, seen}
use Rattle.lb_desk_model.specs.States.{State, SameView, farm_of, usable, view_of, view_server}
use Rattle.lb_desk_model.specs.Steps.{Does}
use Rattle.lb_desk_servers.specs.Shown.{StepsAtFarm, counted}
use Rattle.lb_desk_servers.proofs.Changed.{with_farm}

abbrev pub Same : State → State → Type 0
Same old new = SameView (view_of old) (view_of new)

-- the view changes, or stays
abbrev Tells : Bool → Type 0 → Type 0
Tells true same = same → ⊥
Tells false same = same

-- an event that leaves the view becomes a step
pub next_same : (state : State) (event : Event) (reply : Reply) (new : Seen) → (acts : Acts state event reply new) → Same state acts.acted
    → Next state event reply new
next_same state event reply new acts same = record {
  next = acts.acted;
  step = record { acted = acts.acted; does = acts.does; counts = inl (same, refl) };
  shown = acts.shown;
}

-- an event that leaves the version of what is seen becomes a step with the version counted
next_counted : (state : State) (event : Event) (reply : Reply) (new : Seen) (changes : Bool) → (acts : Acts state event reply new)
    → new.version ≡ state.version → Tells changes (Same state acts.acted)
    → Next state event reply (record new { version = counted state.version changes })
next_counted state event reply new false acts kept same = record {
  next = acts.acted;
  step = record { acted = acts.acted; does = acts.does; counts = inl (same, refl) };
  shown = acts.shown ∙ ap (λ (v : ℕ). record new { version = v }) kept;
}
next_counted state event reply new true acts kept differ = record {
  next = record acts.acted { version = state.version + 1 };
  step = record { acted = acts.acted; does = acts.does; counts = inr (differ, refl) };
  shown = ap (λ (s : Seen). record s { version = state.version + 1 }) acts.shown;
}

abbrev pin_of : TablePin → Pin
pin_of p = p.pin

pub same_view : (state acted : State) → usable acted ≡ usable state → map view_server acted.servers ≡ map view_server state.servers
    → acted.pins ≡ state.pins → Same state acted
same_view state acted usables servers pins = record {
  usable = sym usables;
  servers = sym servers;
  pins = subst (λ (ps : List TablePin). IsPermutation (map pin_of state.pins) (map pin_of ps)) (sym pins) (IsPermutation-refl (map pin_of state.pins));
}

-- two numbers tell whether the view changed, where a test tells whether names and capacities stayed
told : (state acted : State) (new : FarmView) (test : Bool) → farm_of acted ≡ new → acted.pins ≡ state.pins
    → (test ≡ true → map view_server acted.servers ≡ map view_server state.servers)
    → (map view_server acted.servers ≡ map view_server state.servers → test ≡ true)
    → Tells (not (test && eqb (usable_of new) (usable state))) (Same state acted)
told state acted new test farms pins stay passes = go test (eqb (usable_of new) (usable state)) refl refl
  where
    go : (t b : Bool) → test ≡ t → eqb (usable_of new) (usable state) ≡ b → Tells (not (t && b)) (Same state acted)
    go false b fails e = λ same. false≢true (sym fails ∙ passes (sym same.servers))
    go true true holds e = same_view state acted (ap usable_of farms ∙ eqb-true (usable_of new) (usable state) e) (stay holds) pins
    go true false holds e = λ same. false≢true (sym e ∙ eq-eqb (usable_of new) (usable state) (ap usable_of (sym farms) ∙ sym same.usable))

-- ---- events at a farm

-- The event does something that leaves the pins, and behind which this farm is seen. Names and capacities stay where the condition holds
pub record Keeps (state : State) (event : Event) (reply : Reply) (new : FarmView) (Condition : Type 0) : Type 0 where
  pub acts : Acts state event reply (with_farm (seen state) new)
  pub pins : acts.acted.pins ≡ state.pins
  pub servers : Condition → map view_server acts.acted.servers ≡ map view_server state.servers

-- an event that does nothing
pub unchanged : (state : State) (event : Event) (reply : Reply) (new : FarmView) (Condition : Type 0) → new ≡ farm_of state
    → Does state event reply state → Keeps state event reply new Condition
unchanged state event reply new Condition same does = record {
  acts = record { acted = state; does = does; shown = ap (with_farm (seen state)) (sym same) };
  pins = refl;
  servers = λ holds. refl;
}

-- the test tells whether the condition holds
pub record Decides (old new : FarmView) (test : Bool) (Condition : Type 0) : Type 0 where
  pub holds : test ≡ true → Condition
  pub passes : (state acted : State) → farm_of state ≡ old → farm_of acted ≡ new
      → map view_server acted.servers ≡ map view_server state.servers → test ≡ true

abbrev seen_farm : Seen → FarmView
seen_farm s = s.farm

-- What an event does at each state of the farm is a step of whatever shows the farm, where the version is counted by a test and by the
-- sets of usable servers
pub steps_at_farm : (old new : FarmView) (event : Event) (reply : Reply) (test : Bool) (Condition : Type 0) → Decides old new test Condition
    → ((state : State) → farm_of state ≡ old → Keeps state event reply new Condition)
    → StepsAtFarm old event (record { reply = reply; changes_view = not (test && eqb (usable_of new) (usable_of old)) }) new
steps_at_farm old new event reply test Condition decides keeps shown farm_is state is =
    subst (λ (s : Seen). s.farm ≡ old → Next state event reply (record s { farm = new; version = counted s.version (not (test && eqb (usable_of new) (usable_of old))) }))
    is at_state farm_is
  where
    at_state : farm_of state ≡ old
        → Next state event reply (record (seen state) { farm = new; version = counted state.version (not (test && eqb (usable_of new) (usable_of old))) })
    at_state there =
        let k = keeps state there in
        let farms = ap seen_farm k.acts.shown in
        rw (← there)
        (next_counted state event reply (with_farm (seen state) new) (not (test && eqb (usable_of new) (usable state))) k.acts refl
        (told state k.acts.acted new test farms k.pins (λ e. k.servers (decides.holds e)) (decides.passes state k.acts.acted there farms)))
