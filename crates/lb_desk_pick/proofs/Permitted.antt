-- A set of the servers that pass a test, one server after another; and the servers that may hold a pin.
use Rattle.std.proofs.Common.{◌≡◌, ◌≢◌, ℕ, ◌+◌, ◌-◌, ◌<◌, ◌≤◌, Bool, true, false, ◌&&◌, ◌||◌, cond, eqb, ltb, Option, None, List, [], ◌∷◌, length, map, refl, sym, ap, ◌∙◌, inl, inr, arith}
use Rattle.std.specs.Prelude.{drop, slice_get}
use Rattle.std.specs.Option.{option_and_then}
use Rattle.std.proofs.lemmas.Bool.{cases_lt, and_parts, and_right, eq-eqb, ne_eqb, lt-ltb, le-ltb}
use Rattle.std.proofs.lemmas.List.Sums.{sum_by-cons}
use Rattle.std.proofs.lemmas.Option.{slice_get_past}
use Rattle.lb_types.specs.Servers.{has}
use Rattle.pin_set.specs.Assignments.{is_at}
use Rattle.pin_set.specs.Pins.{permitted}
use Rattle.cert_check_law.proofs.Views.{permitted_usable}
use Rattle.server_state.specs.Farm.{FarmView, usable, set_of, capacity_of}
use Rattle.capacity_book.specs.Book.{BookView, pins_at}
use Rattle.lb_types.specs.declared.balance.Balance.{Balance}
use Rattle.lb_desk_model.specs.declared.event.Request.{Request}
use Rattle.lb_desk_model.specs.declared.stand.Stand.{Stand}
use Rattle.pin_set.specs.declared.table_pin.TablePin.{TablePin}
use Rattle.lb_desk_model.specs.Serves.{load, may_hold, may_take, is_full, staying, capacity_at}
use Rattle.lb_desk_model.specs.States.{State, seen_server}
use Rattle.lb_desk_pick.specs.Sights.{IsSeen, lost_place}
use Rattle.lb_desk_pick.specs.Walks.{HaveWeights, pins_without}
use Rattle.lb_desk_pick.proofs.Sights.{length_seen, capacity_seen, usable_weighs}

-- one server further
pub able_more : (test : ℕ → Bool) (i s : ℕ) (passed before : Bool) → passed ≡ test i → before ≡ (ltb s i && test s)
    → ((passed && eqb s i) || before) ≡ (ltb s (i + 1) && test s)
able_more test i s passed before e b =
    elim (cases_lt s i) [
      | inl below ↦
          let other : s ≢ i = λ same. omega arith in
          rw (b, ne_eqb s i other, lt-ltb s i below, lt-ltb s (i + 1) (omega arith), and_right passed false refl) refl
      | inr above ↦ elim (cases_lt i s) [
        | inl past ↦
            let other : s ≢ i = λ same. omega arith in
            rw (b, ne_eqb s i other, le-ltb s i above, le-ltb s (i + 1) (omega arith), and_right passed false refl) refl
        | inr within ↦
            let same : s ≡ i = omega arith in
            rw (b, e, same, eq-eqb i i refl, le-ltb i i (omega arith), lt-ltb i (i + 1) (omega arith)) (last (test i))
      ]
    ]
  where
    last : (t : Bool) → ((t && true) || (false && t)) ≡ (true && t)
    last true = refl
    last false = refl

-- all servers: behind the last one nothing passes
pub able_all : (n s : ℕ) (passes : Bool) → (n ≤ s → passes ≡ false) → (ltb s n && passes) ≡ passes
able_all n s passes none =
    elim (cases_lt s n) [
      | inl below ↦ rw (lt-ltb s n below) refl
      | inr above ↦ rw (none above, le-ltb s n above) refl
    ]

-- a server that doesn't exist holds nothing
pub no_room : (farm : FarmView) (pins s : ℕ) → length farm.servers ≤ s → ltb pins (capacity_of farm s) ≡ false
no_room farm pins s past = rw (slice_get_past farm.servers s past) (le-ltb pins 0 (omega arith))

-- ---- permitted servers

pub permitted_weigh : (farm : FarmView) (want : ℕ) → HaveWeights farm (permitted want (usable farm))
permitted_weigh farm want s e = usable_weighs farm s (permitted_usable want (usable farm) s e)

pub weigh_among : (farm : FarmView) (set among : ℕ) (test : ℕ → Bool) → HaveWeights farm among
    → ((s : ℕ) → has set s ≡ (has among s && test s)) → HaveWeights farm set
weigh_among farm set among test weighted is s e = weighted s (and_parts (has among s) (test s) (sym (is s) ∙ e)).0

-- ---- the servers that may hold a pin

-- the permitted servers of a request at a state that is seen so
pub permitted_seen : (balance : Balance) (farm : FarmView) (book : BookView) (cursor : Option Stand) (rules : List ℕ) (state : State) (request : Request)
    → IsSeen balance farm book cursor state → request.rules ≡ rules
    → has (permitted (set_of rules) (usable farm)) ≡ may_take state request
permitted_seen balance farm book cursor rules state request seen same =
    sym (λ i. has (permitted (set_of (same i)) (usable (seen.farm_is i))))

pub candidates_seen : (balance : Balance) (farm : FarmView) (book : BookView) (cursor : Option Stand) (rules : List ℕ) (lost : Option ℕ) (set : ℕ) (state : State) (request : Request)
    → IsSeen balance farm book cursor state → request.rules ≡ rules → (pins : List TablePin)
    → ((s : ℕ) → s < length state.servers → pins_without book lost s ≡ load pins s)
    → ((s : ℕ) → has set s ≡ (has (permitted (set_of rules) (usable farm)) s && ltb (pins_without book lost s) (capacity_of farm s)))
    → has set ≡ may_hold state request pins
candidates_seen balance farm book cursor rules lost set state request seen same pins loads is =
    λ i s. at s i
  where
    shown : map seen_server state.servers ≡ farm.servers
    shown = ap (λ (f : FarmView). f.servers) seen.farm_is

    room : (s : ℕ) → ltb (pins_without book lost s) (capacity_of farm s) ≡ ltb (load pins s) (capacity_at state.servers s)
    room s = elim (cases_lt s (length state.servers)) [
      | inl below ↦
          ap (λ (n : ℕ). ltb n (capacity_of farm s)) (loads s below) ∙ ap (ltb (load pins s)) (sym (capacity_seen farm state.servers shown s))
      | inr past ↦
          let many = length_seen farm state.servers shown in
          no_room farm (pins_without book lost s) s (omega (arith, many, past))
          ∙ sym (ap (ltb (load pins s)) (capacity_seen farm state.servers shown s) ∙ no_room farm (load pins s) s (omega (arith, many, past)))
    ]

    at : (s : ℕ) → has set s ≡ may_hold state request pins s
    at s =
        is s
        ∙ (ap (λ (f : ℕ → Bool). f s && ltb (pins_without book lost s) (capacity_of farm s)) (permitted_seen balance farm book cursor rules state request seen same)
        ∙ ap (λ (b : Bool). may_take state request s && b) (room s))

-- ---- how many pins there are without the one that leaves

pub loads_of_all : (book : BookView) (lost : Option ℕ) (n s : ℕ) → lost ≡ None → pins_at book s ≡ n → pins_without book lost s ≡ n
loads_of_all book lost n s none counted = rw none (omega (arith, counted))

without_first : (b : Bool) (n : ℕ) → (cond b 1 0 + n) - cond b 1 0 ≡ n
without_first true n = omega arith
without_first false n = omega arith

pub loads_of_staying : (state : State) (s : ℕ) → load state.pins s - cond (is_at s (lost_place state)) 1 0 ≡ load (staying state) s
loads_of_staying state s = go (is_full state) state.pins
  where
    go : (full : Bool) (pins : List TablePin)
        → load pins s - cond (is_at s (cond full (option_and_then (λ p. p.pin.place) (slice_get pins 0)) None)) 1 0 ≡ load (cond full (drop 1 pins) pins) s
    go false pins = omega arith
    go true [] = refl
    go true (p ∷ pins) = rw (sum_by-cons (λ (q : TablePin). cond (is_at s q.pin.place) 1 0) p pins) (without_first (is_at s p.pin.place) (load pins s))
