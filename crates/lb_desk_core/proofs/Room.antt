-- A server that is picked has room, and the book goes on counting the table's pins.
use Rattle.std.proofs.Common.{◌≡◌, ℕ, ◌+◌, ◌-◌, ◌<◌, ◌≤◌, Bool, true, false, cond, leb, ltb, ltb-true, Option, Some, None, IsSome, List, [], ◌∷◌, ◌++◌, length, map, drop, slice_get, All, refl, sym, ap, subst, ◌∙◌, arith, ◌||◌, is_none}
use Rattle.std.specs.Option.{ForSome, option_map_or, option_and_then}
use Rattle.std.proofs.lemmas.Bool.{false≢true, and_parts}
use Rattle.std.proofs.lemmas.List.{length-map}
use Rattle.std.proofs.lemmas.List.Elements.{All-head, All-tail}
use Rattle.std.proofs.lemmas.Option.{none-some}
use Rattle.lb_types.specs.Servers.{has}
use Rattle.pin_set.specs.declared.pin.Pin.{Pin}
use Rattle.pin_set.specs.declared.pin.PinId.{PinId}
use Rattle.pin_set.specs.Views.{IsBelow}
use Rattle.server_state.specs.Farm.{FarmView, capacity_of}
use Rattle.capacity_book.specs.Book.{BookView, pins_at}
use Rattle.lb_types.specs.declared.table_settings.TableSettings.{TableSettings}
use Rattle.lb_desk_model.specs.declared.event.Request.{Request}
use Rattle.lb_desk_model.specs.declared.stand.Stand.{Stand}
use Rattle.pin_set.specs.declared.table_pin.TablePin.{TablePin}
use Rattle.lb_desk_model.specs.Picks.{picked}
use Rattle.lb_desk_model.specs.Seen.{Seen, seen}
use Rattle.lb_desk_model.specs.Serves.{capacity_at, is_full, keeps_pins, load, may_hold, permitted_to, pin_pick, staying}
use Rattle.lb_desk_model.specs.States.{State, farm_of, view_server}
use Rattle.lb_desk_law.proofs.Chosen.{pick_chosen, pin_server}
use Rattle.lb_desk_law.proofs.Lawful.{pin_of, views_are_lawful}
use Rattle.lb_desk_pick.specs.Sights.{lost_place}
use Rattle.lb_desk_pick.specs.Walks.{pins_without}
use Rattle.lb_desk_pick.proofs.Permitted.{loads_of_staying}
use Rattle.lb_desk_pick.proofs.Sights.{capacity_seen}
use Rattle.pin_table.specs.declared.held.Held.{Held}
use Rattle.pin_table.specs.Pins.{Stands, IsUsed, held_pin, used_in}
use Rattle.pin_table.specs.Tables.{TableParts}
use Rattle.pin_table.specs.Tables.{is_full as table_is_full, staying as table_staying}
use Rattle.lb_desk_core.specs.Core.{IsReached}
use Rattle.lb_desk_core.specs.Requests.{one_at}
use Rattle.lb_desk_core.proofs.Counts.{load-cons, load-found, load-push, load-used, one_there}
use Rattle.lb_desk_core.proofs.Requests.{as_many}

-- ---- the server that is picked

-- it has room for one pin beside these
picked_room : (state : State) (request : Request) (pins : List TablePin) (cursor : Option Stand) (server : ℕ)
    → pin_pick state request pins ≡ Some (picked cursor server) → load pins server < capacity_of (farm_of state) server
picked_room state request pins cursor server e =
    let chosen = pick_chosen state request (may_hold state request pins) cursor server e in
    let fewer : ltb (load pins server) (capacity_at state.servers server) ≡ true =
    (and_parts (has (permitted_to state request) server) (ltb (load pins server) (capacity_at state.servers server)) chosen).1 in
    subst (λ (n : ℕ). load pins server < n) (capacity_seen (farm_of state) state.servers refl server)
    (ltb-true (load pins server) (capacity_at state.servers server) fewer)

-- ---- places of pins

-- every pin is at a server that exists, or at none
places_below : (shown : Seen) → (r : IsReached shown) → All (λ (p : Pin). IsBelow (length shown.names) p.place) (map pin_of r.reaches.state.pins)
places_below shown r =
    let st = r.reaches.state in
    let view = views_are_lawful r.backend r.log st r.lawful r.reaches.history in
    let many : length (map view_server st.servers) ≡ length shown.names = length-map st.servers view_server ∙ sym (as_many st shown r.reaches.is) in
    subst (λ (n : ℕ). All (λ (p : Pin). IsBelow n p.place) (map pin_of st.pins)) many view.places

middle : (P : Pin → Type 0) (before : List TablePin) (x : TablePin) (after : List TablePin) → All P (map pin_of (before ++ x ∷ after)) → P x.pin
middle P [] x after all = All-head P x.pin (map pin_of after) all
middle P (b ∷ before) x after all = middle P before x after (All-tail P b.pin (map pin_of (before ++ x ∷ after)) all)

-- where one of so many pins is, the book counts one
counted_there : (pins : ℕ → ℕ) (loads : ℕ → ℕ) (n : ℕ) (place : Option ℕ) → ((s : ℕ) → s < n → pins s ≡ loads s) → IsBelow n place
    → ((s : ℕ) → one_at place s ≤ loads s) → ForSome place (λ server. 0 < pins server)
counted_there pins loads n place same below held server at =
    let within : server < n = below server at in
    let there : one_at place server ≡ 1 = ap (λ (o : Option ℕ). one_at o server) at ∙ one_there server in
    omega (arith, held server, there, same server within)

-- where a pin is lost, the table counts one
lost_counted : (state : State) (s : ℕ) → one_at (lost_place state) s ≤ load state.pins s
lost_counted state s = go (is_full state) state.pins
  where
    go : (full : Bool) (pins : List TablePin)
        → one_at (cond full (option_and_then (λ (p : TablePin). p.pin.place) (slice_get pins 0)) None) s ≤ load pins s
    go false pins = omega arith
    go true [] = omega arith
    go true (p ∷ pins) = omega (arith, load-cons p pins s)

module _ (shown : Seen) (r : IsReached shown) (book : BookView) (loads : (s : ℕ) → s < length shown.names → pins_at book s ≡ load shown.pins s) where
  loads_of : (s : ℕ) → s < length shown.names → pins_at book s ≡ load r.reaches.state.pins s
  loads_of s below = loads s below ∙ sym (ap (λ (q : Seen). load q.pins s) r.reaches.is)

  -- ---- a pin that moves

  pub moved_held : (name : PinId) (held : Held) → Stands name held shown.pins → ForSome held.place (λ server. 0 < pins_at book server)
  moved_held name held stands =
      let found = held_pin name held in
      let is : r.reaches.state.pins ≡ stands.0 ++ found ∷ stands.1 = ap (λ (q : Seen). q.pins) r.reaches.is ∙ stands.2.is in
      let below : All (λ (p : Pin). IsBelow (length shown.names) p.place) (map pin_of (stands.0 ++ found ∷ stands.1)) =
      subst (λ (ps : List TablePin). All (λ (p : Pin). IsBelow (length shown.names) p.place) (map pin_of ps)) is (places_below shown r) in
      counted_there (pins_at book) (load shown.pins) (length shown.names) held.place loads
      (middle (λ (p : Pin). IsBelow (length shown.names) p.place) stands.0 found stands.1 below)
      (λ s. subst (λ (ps : List TablePin). one_at held.place s ≤ load ps s) (sym stands.2.is) (load-found stands.0 found stands.1 s))

  module _ (request : Request) (cursor : Option Stand) (server : ℕ) where
    pub server_below : (pins : List TablePin) → pin_pick r.reaches.state request pins ≡ Some (picked cursor server) → server < length shown.names
    server_below pins pick =
        let many = as_many r.reaches.state shown r.reaches.is in
        let there = pin_server r.reaches.state request pins cursor server pick in
        omega (arith, many, there)

    pub moved_room : (place : Option ℕ) → pin_pick r.reaches.state request r.reaches.state.pins ≡ Some (picked cursor server)
        → pins_without book place server < capacity_of shown.farm server
    moved_room place pick =
        let there = picked_room r.reaches.state request r.reaches.state.pins cursor server pick in
        let room : load r.reaches.state.pins server < capacity_of shown.farm server =
        subst (λ (f : FarmView). load r.reaches.state.pins server < capacity_of f server) (ap (λ (q : Seen). q.farm) r.reaches.is) there in
        let below = server_below r.reaches.state.pins pick in
        omega (arith, room, loads_of server below)

    pub made_room : (lost : Option ℕ) → lost_place r.reaches.state ≡ lost
        → pin_pick r.reaches.state request (staying r.reaches.state) ≡ Some (picked cursor server)
        → pins_without book lost server < capacity_of shown.farm server
    made_room lost is pick =
        let there = picked_room r.reaches.state request (staying r.reaches.state) cursor server pick in
        let room : load (staying r.reaches.state) server < capacity_of shown.farm server =
        subst (λ (f : FarmView). load (staying r.reaches.state) server < capacity_of f server) (ap (λ (q : Seen). q.farm) r.reaches.is) there in
        let below = server_below (staying r.reaches.state) pick in
        let stays : load r.reaches.state.pins server - one_at lost server ≡ load (staying r.reaches.state) server =
        subst (λ (o : Option ℕ). load r.reaches.state.pins server - one_at o server ≡ load (staying r.reaches.state) server) is (loads_of_staying r.reaches.state server) in
        omega (arith, room, stays, loads_of server below)

  -- ---- a pin that is lost

  pub lost_held : (lost : Option ℕ) → lost_place r.reaches.state ≡ lost → ForSome lost (λ server. 0 < pins_at book server)
  lost_held lost is =
      subst (λ (o : Option ℕ). ForSome o (λ server. 0 < pins_at book server)) is
      (counted_there (pins_at book) (load r.reaches.state.pins) (length shown.names) (lost_place r.reaches.state) loads_of
      (lost_below r.reaches.state (length shown.names) (places_below shown r)) (lost_counted r.reaches.state))
    where
      lost_below : (state : State) (n : ℕ) → All (λ (p : Pin). IsBelow n p.place) (map pin_of state.pins) → IsBelow n (lost_place state)
      lost_below state n all = go (is_full state) state.pins all
        where
          go : (full : Bool) (pins : List TablePin) → All (λ (p : Pin). IsBelow n p.place) (map pin_of pins)
              → IsBelow n (cond full (option_and_then (λ (p : TablePin). p.pin.place) (slice_get pins 0)) None)
          go false pins all = λ server at. absurd (none-some server at)
          go true [] all = λ server at. absurd (none-some server at)
          go true (p ∷ pins) all = All-head (λ (q : Pin). IsBelow n q.place) p.pin (map pin_of pins) all

-- ---- what the book counts after it

-- `before` and `after` are what the book counts at the server s
pub moved_loads : (name : PinId) (held : Held) (to now : ℕ) (pins new : List TablePin) → Stands name held pins → IsUsed name (Some to) now pins new
    → (s before after : ℕ) → after + one_at held.place s ≡ before + one_at (Some to) s → before ≡ load pins s → after ≡ load new s
moved_loads name held to now pins new stands used s before after shifted counted =
    let found = held_pin name held in
    let is : load new s ≡ load (stands.0 ++ stands.1 ++ used_in found (Some to) now ∷ []) s =
    ap (λ (ps : List TablePin). load ps s) (used stands.0 found stands.1 stands.2) in
    let was : load pins s ≡ load (stands.0 ++ found ∷ stands.1) s = ap (λ (ps : List TablePin). load ps s) stands.2.is in
    omega (arith, shifted, counted, is, was, load-used stands.0 found stands.1 (used_in found (Some to) now) s)

pub kept_loads : (name : PinId) (held : Held) (now : ℕ) (pins new : List TablePin) → Stands name held pins → IsUsed name held.place now pins new
    → (s : ℕ) → load new s ≡ load pins s
kept_loads name held now pins new stands used s =
    let found = held_pin name held in
    let is : load new s ≡ load (stands.0 ++ stands.1 ++ used_in found held.place now ∷ []) s =
    ap (λ (ps : List TablePin). load ps s) (used stands.0 found stands.1 stands.2) in
    let was : load pins s ≡ load (stands.0 ++ found ∷ stands.1) s = ap (λ (ps : List TablePin). load ps s) stands.2.is in
    omega (arith, is, was, load-used stands.0 found stands.1 (used_in found held.place now) s)

pub made_loads : (state : State) (lost : Option ℕ) (made : TablePin) (to : ℕ) → lost_place state ≡ lost → made.pin.place ≡ Some to
    → (s before after : ℕ) → after + one_at lost s ≡ before + one_at (Some to) s → before ≡ load state.pins s
    → after ≡ load (staying state ++ made ∷ []) s
made_loads state lost made to is at s before after shifted counted =
    let some : one_at lost s ≤ load state.pins s = subst (λ (o : Option ℕ). one_at o s ≤ load state.pins s) is (lost_counted state s) in
    let stays : load state.pins s - one_at lost s ≡ load (staying state) s =
    subst (λ (o : Option ℕ). load state.pins s - one_at o s ≡ load (staying state) s) is (loads_of_staying state s) in
    let new : one_at made.pin.place s ≡ one_at (Some to) s = ap (λ (o : Option ℕ). one_at o s) at in
    omega (arith, shifted, counted, some, stays, new, load-push (staying state) made s)

-- ---- the table as it is set

abbrev AsSet : Option TableSettings → TableParts → Type 0
AsSet settings table = ForSome settings (λ t. (table.size ≡ t.size) × (table.no_purge ≡ t.no_purge))

-- a table that isn't there is full
pub full_same : (state : State) (shown : Seen) (table : TableParts) → seen state ≡ shown → shown.pins ≡ table.pins → AsSet shown.table table
    → (is_none shown.table || table_is_full table) ≡ is_full state
full_same state shown table is pins set =
    go state.table
    (sym (ap (λ (q : Seen). q.table) is))
    (ap (λ (q : Seen). length q.pins) is ∙ ap length pins)
  where
    go : (settings : Option TableSettings) → shown.table ≡ settings → length state.pins ≡ length table.pins
        → (is_none shown.table || table_is_full table) ≡ option_map_or (λ (t : TableSettings). leb t.size (length state.pins)) settings true
    go None none many = rw none refl
    go (Some t) some many = rw (some, many, (set t some).0) refl

-- the same pins stay
pub staying_same : (state : State) (shown : Seen) (table : TableParts) → seen state ≡ shown → shown.pins ≡ table.pins → AsSet shown.table table
    → IsSome shown.table → staying state ≡ table_staying table
staying_same state shown table is pins set some =
    let there : table_is_full table ≡ is_full state =
    subst (λ (b : Bool). (b || table_is_full table) ≡ is_full state) (some_not_none shown.table some) (full_same state shown table is pins set) in
    let same : state.pins ≡ table.pins = ap (λ (q : Seen). q.pins) is ∙ pins in
    ap (λ (b : Bool). cond b (drop 1 state.pins) state.pins) (sym there)
    ∙ ap (λ (ps : List TablePin). cond (table_is_full table) (drop 1 ps) ps) same
  where
    some_not_none : (o : Option TableSettings) → IsSome o → is_none o ≡ false
    some_not_none None h = absurd (false≢true h)
    some_not_none (Some t) h = refl

-- a full table keeps its pins as it is set
pub keeps_same : (state : State) (shown : Seen) → seen state ≡ shown → keeps_pins state ≡ option_map_or (λ (t : TableSettings). t.no_purge) shown.table true
keeps_same state shown is = ap (λ (q : Seen). option_map_or (λ (t : TableSettings). t.no_purge) q.table true) is
