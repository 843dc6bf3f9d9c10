-- What serving a request does to each state that is shown.
use Rattle.std.proofs.Common.{◌≡◌, ℕ, ◌<◌, ◌≤◌, true, false, Option, Some, None, IsSome, List, [], ◌∷◌, ◌++◌, length, refl, sym, ap, subst, ◌∙◌, inl, inr, arith, ◌&&◌}
use Rattle.std.specs.Prelude.{max, All}
use Rattle.std.specs.Option.{option_map, option_and_then}
use Rattle.std.proofs.Math.Bridge.{le_prop}
use Rattle.std.proofs.lemmas.Bool.{false≢true}
use Rattle.std.proofs.lemmas.List.{length-map}
use Rattle.lb_types.specs.declared.limits.TheConstants.{MAX_COST}
use Rattle.pin_set.specs.declared.pin.PinId.{PinId}
use Rattle.pin_set.specs.declared.pin_key.PinKey.{PinKey}
use Rattle.pin_set.specs.Pins.{honoured}
use Rattle.capacity_book.specs.Book.{BookView, pins_at}
use Rattle.lb_types.specs.declared.table_settings.TableSettings.{TableSettings}
use Rattle.lb_desk_model.specs.declared.event.Event.TheVariants.{Serve}
use Rattle.lb_desk_model.specs.declared.event.Request.{Request}
use Rattle.lb_desk_model.specs.declared.reply.Reply.TheVariants.{Served, Refused}
use Rattle.lb_desk_model.specs.declared.reply.Refusal.TheVariants.{NoSuchServer, NoServer}
use Rattle.lb_desk_model.specs.declared.reply.ServedAs.TheVariants.{Kept, Moved, Made, Loose}
use Rattle.lb_desk_model.specs.declared.stand.Stand.{Stand}
use Rattle.pin_set.specs.declared.table_pin.TablePin.{TablePin}
use Rattle.lb_desk_model.specs.Picks.{picked}
use Rattle.lb_desk_model.specs.Seen.{Seen, Acts, seen}
use Rattle.lb_desk_model.specs.Serves.{AreServers, IsLoose, IsNew, KeepsPin, MovesPin, MakesPin, HasNoServer, after_serve, is_full, keeps_pins, load, loose_pick, name_of, new_pin, pin_name, pin_pick, staying, used_at, want_of}
use Rattle.lb_desk_model.specs.States.{State, serving, usable}
use Rattle.lb_desk_pick.specs.Sights.{IsSeen}
use Rattle.pin_table.specs.declared.held.Held.{Held}
use Rattle.pin_table.specs.Pins.{Stands, IsUsed, held_pin, used_in}
use Rattle.lb_desk_core.specs.Acting.{ActsOn, ForEach}
use Rattle.lb_desk_core.specs.Requests.{AreKnown, IsNamed, honours, keyed, with_key}
use Rattle.lb_desk_core.proofs.Reached.{name_at}

-- what holds of each state and what it shows, holds of each state that is shown
at_shown : (P : Seen → State → Type 0) → ((state : State) → P (seen state) state) → (shown : Seen) → ForEach shown (P shown)
at_shown P each shown state is = subst (λ (s : Seen). P s state) is (each state)

pub as_many : (state : State) (shown : Seen) → seen state ≡ shown → length shown.names ≡ length state.servers
as_many state shown is = sym (ap (λ (s : Seen). length s.names) is) ∙ length-map state.servers name_at

-- what the picks need to know of a state that is shown
pub is_seen : (state : State) (shown : Seen) (book : BookView) → seen state ≡ shown → shown.connections ≡ book.connections
    → ((server : ℕ) → server < length shown.names → pins_at book server ≡ load shown.pins server)
    → IsSeen shown.balance shown.farm book shown.cursor state
is_seen state shown book is connections loads = record {
  balance_is = ap (λ (s : Seen). s.balance) is;
  farm_is = ap (λ (s : Seen). s.farm) is;
  connections = ap (λ (s : Seen). s.connections) is ∙ connections;
  loads = λ server below.
      let many = as_many state shown is in
      loads server (omega (arith, below, many)) ∙ sym (ap (λ (s : Seen). load s.pins server) is);
  cursor_is = ap (λ (s : Seen). s.cursor) is;
}

-- ---- the request's name, and the servers that its rules name

pub are_servers : (state : State) (shown : Seen) (rules : List ℕ) → seen state ≡ shown → AreKnown shown rules → AreServers state rules
are_servers state shown rules is known =
    subst (λ (n : ℕ). All (λ (server : ℕ). server < n) rules) (as_many state shown is) known

pub are_known : (state : State) (shown : Seen) (rules : List ℕ) → seen state ≡ shown → AreServers state rules → AreKnown shown rules
are_known state shown rules is known =
    subst (λ (n : ℕ). All (λ (server : ℕ). server < n) rules) (sym (as_many state shown is)) known

pub named_at : (state : State) (shown : Seen) (request : Request) (name : PinId) → seen state ≡ shown → IsNamed shown request name
    → name_of state (keyed request name) ≡ Some name
named_at state shown request name is named =
    go state.table (subst (λ (t : Option TableSettings). IsSome t) (sym (ap (λ (s : Seen). s.table) is)) named.table)
  where
    go : (table : Option TableSettings) → IsSome table
        → option_and_then (λ (t : TableSettings). option_map (λ (key : PinKey). pin_name key (want_of request)) (Some name.key)) table ≡ Some name
    go None some = absurd (false≢true some)
    go (Some t) some = ap (λ (w : ℕ). Some (pin_name name.key w)) (sym named.want)

-- a request is its four values: any two proofs that its cost is in its range are one
pub same_request : (P : Request → Type 0) (key : Option PinKey) (rules : List ℕ) (cost moment : ℕ) (from other_from : 1 ≤ cost) (to other_to : cost ≤ MAX_COST)
    → P (record { key = key; rules = rules; cost = cost; moment = moment; cost_from = from; cost_to = to })
    → P (record { key = key; rules = rules; cost = cost; moment = moment; cost_from = other_from; cost_to = other_to })
same_request P key rules cost moment from other_from to other_to holds =
    let below : from ≡ other_from = le_prop from other_from in
    let above : to ≡ other_to = le_prop to other_to in
    let there : P (record { key = key; rules = rules; cost = cost; moment = moment; cost_from = other_from; cost_to = to }) =
    subst (λ (f : 1 ≤ cost). P (record { key = key; rules = rules; cost = cost; moment = moment; cost_from = f; cost_to = to })) below holds in
    subst (λ (t : cost ≤ MAX_COST). P (record { key = key; rules = rules; cost = cost; moment = moment; cost_from = other_from; cost_to = t })) above there

-- ---- requests without a pin

pub loose_without_table : (shown : Seen) (request : Request) → shown.table ≡ None → ForEach shown (λ state. IsLoose state request)
loose_without_table shown request none state is =
    inl (ap (λ (t : Option TableSettings). option_and_then (λ (u : TableSettings). option_map (λ (key : PinKey). pin_name key (want_of request)) request.key) t)
    (ap (λ (s : Seen). s.table) is ∙ none))

pub loose_without_key : (shown : Seen) (request : Request) → ForEach shown (λ state. IsLoose state (with_key request None))
loose_without_key shown request state is = inl (go state.table)
  where
    go : (table : Option TableSettings)
        → option_and_then (λ (u : TableSettings). option_map (λ (key : PinKey). pin_name key (want_of request)) None) table ≡ None
    go None = refl
    go (Some t) = refl

pub loose_where_full : (shown : Seen) (request : Request) (name : PinId) → IsNamed shown request name → IsNew name shown.pins
    → ForEach shown (λ state. (is_full state && keeps_pins state) ≡ true) → ForEach shown (λ state. IsLoose state (keyed request name))
loose_where_full shown request name named unknown closed state is =
    inr (
      name,
      named_at state shown request name is named,
      subst (λ (ps : List TablePin). IsNew name ps) (sym (ap (λ (s : Seen). s.pins) is)) unknown,
      closed state is,
    )

-- ---- what is done at a state

loose_acts : (state : State) (request : Request) (cursor : Option Stand) (server : ℕ) → AreServers state request.rules → IsLoose state request
    → loose_pick state request ≡ Some (picked cursor server)
    → Acts state (Serve request) (Served server Loose) (record (seen state) { cursor = cursor; latest = max state.latest request.moment })
loose_acts state request cursor server known loose pick = record {
  acted = after_serve state request state.pins cursor;
  does = (known, (cursor, loose, pick, refl));
  shown = refl;
}

none_acts : (state : State) (request : Request) → AreServers state request.rules → HasNoServer state request
    → Acts state (Serve request) (Refused NoServer) (seen state)
none_acts state request known none = record { acted = state; does = (known, none, refl); shown = refl }

kept_acts : (state : State) (request : Request) (before : List TablePin) (found : TablePin) (after : List TablePin) (server : ℕ)
    → AreServers state request.rules → KeepsPin state request before found after server
    → Acts state (Serve request) (Served server Kept) (record (seen state) {
      pins = before ++ after ++ used_at found server (max state.latest request.moment) ∷ [];
      latest = max state.latest request.moment;
    })
kept_acts state request before found after server known keeps = record {
  acted = after_serve state request (before ++ after ++ used_at found server (max state.latest request.moment) ∷ []) state.cursor;
  does = (known, (before, found, after, keeps, refl));
  shown = refl;
}

moved_acts : (state : State) (request : Request) (before : List TablePin) (found : TablePin) (after : List TablePin) (cursor : Option Stand) (server : ℕ)
    → AreServers state request.rules → MovesPin state request before found after → pin_pick state request state.pins ≡ Some (picked cursor server)
    → Acts state (Serve request) (Served server Moved) (record (seen state) {
      pins = before ++ after ++ used_at found server (max state.latest request.moment) ∷ [];
      cursor = cursor;
      latest = max state.latest request.moment;
    })
moved_acts state request before found after cursor server known moves pick = record {
  acted = after_serve state request (before ++ after ++ used_at found server (max state.latest request.moment) ∷ []) cursor;
  does = (known, (before, found, after, cursor, moves, pick, refl));
  shown = refl;
}

made_acts : (state : State) (request : Request) (name : PinId) (cursor : Option Stand) (server : ℕ)
    → AreServers state request.rules → MakesPin state request name → pin_pick state request (staying state) ≡ Some (picked cursor server)
    → Acts state (Serve request) (Served server Made) (record (seen state) {
      pins = staying state ++ new_pin name request server (max state.latest request.moment) ∷ [];
      cursor = cursor;
      latest = max state.latest request.moment;
    })
made_acts state request name cursor server known makes pick = record {
  acted = after_serve state request (staying state ++ new_pin name request server (max state.latest request.moment) ∷ []) cursor;
  does = (known, (name, cursor, makes, pick, refl));
  shown = refl;
}

-- ---- what is done at every state that is shown

-- a rule names a server that doesn't exist
pub unknown_on : (shown : Seen) (request : Request) → (AreKnown shown request.rules → ⊥) → ActsOn shown (Serve request) (Refused NoSuchServer) shown
unknown_on shown request unknown state is = record {
  acted = state;
  does = (λ known. unknown (are_known state shown request.rules is known), refl);
  shown = is;
}

-- the table stays as it is
pub loose_on : (shown : Seen) (request : Request) (cursor : Option Stand) (server : ℕ) → AreKnown shown request.rules
    → ForEach shown (λ state. IsLoose state request) → ForEach shown (λ state. loose_pick state request ≡ Some (picked cursor server))
    → ActsOn shown (Serve request) (Served server Loose) (record shown { cursor = cursor; latest = max shown.latest request.moment })
loose_on shown request cursor server known loose pick state is =
    subst (λ (s : Seen). Acts state (Serve request) (Served server Loose) (record s { cursor = cursor; latest = max s.latest request.moment }))
    is (loose_acts state request cursor server (are_servers state shown request.rules is known) (loose state is) (pick state is))

pub no_loose_on : (shown : Seen) (request : Request) → AreKnown shown request.rules
    → ForEach shown (λ state. IsLoose state request) → ForEach shown (λ state. loose_pick state request ≡ None)
    → ActsOn shown (Serve request) (Refused NoServer) shown
no_loose_on shown request known loose pick state is =
    subst (λ (s : Seen). Acts state (Serve request) (Refused NoServer) s) is
    (none_acts state request (are_servers state shown request.rules is known) (inr (inr (loose state is, pick state is))))

-- the pin stays where it is
pub kept_on : (shown : Seen) (request : Request) (name : PinId) (held : Held) (server : ℕ) (pins : List TablePin)
    → IsNamed shown request name → Stands name held shown.pins → held.place ≡ Some server → honours shown name.want server ≡ true
    → IsUsed name held.place (max shown.latest request.moment) shown.pins pins
    → ActsOn shown (Serve (keyed request name)) (Served server Kept) (record shown { pins = pins; latest = max shown.latest request.moment })
kept_on shown request name held server pins named stands at kept used state is =
    at_shown (λ (s : Seen) (st : State). IsNamed s request name → Stands name held s.pins → honours s name.want server ≡ true
    → IsUsed name held.place (max s.latest request.moment) s.pins pins
    → Acts st (Serve (keyed request name)) (Served server Kept) (record s { pins = pins; latest = max s.latest request.moment }))
    each shown state is named stands kept used
  where
    each : (st : State) → IsNamed (seen st) request name → Stands name held st.pins → honours (seen st) name.want server ≡ true
        → IsUsed name held.place (max st.latest request.moment) st.pins pins
        → Acts st (Serve (keyed request name)) (Served server Kept) (record (seen st) { pins = pins; latest = max st.latest request.moment })
    each st named stands kept used =
        let found = held_pin name held in
        let now = max st.latest request.moment in
        let is : pins ≡ stands.0 ++ stands.1 ++ used_at found server now ∷ [] =
        used stands.0 found stands.1 stands.2 ∙ ap (λ (place : Option ℕ). stands.0 ++ stands.1 ++ used_in found place now ∷ []) at in
        subst (λ (ps : List TablePin). Acts st (Serve (keyed request name)) (Served server Kept) (record (seen st) { pins = ps; latest = now }))
        (sym is)
        (kept_acts st (keyed request name) stands.0 found stands.1 server (are_servers st (seen st) request.rules refl named.known) (record {
          name = name;
          named = named_at st (seen st) request name refl named;
          stands = stands.2;
          at = at;
          honoured = subst (λ (w : ℕ). honoured (Some server) w (usable st) (serving st server) ≡ true) named.want kept;
        }))

-- the pin isn't kept
moves : (st : State) (request : Request) (name : PinId) (held : Held) → IsNamed (seen st) request name → (stands : Stands name held st.pins)
    → ((server : ℕ) → held.place ≡ Some server → honours (seen st) name.want server ≡ false)
    → MovesPin st (keyed request name) stands.0 (held_pin name held) stands.1
moves st request name held named stands left = record {
  name = name;
  named = named_at st (seen st) request name refl named;
  stands = stands.2;
  not_honoured = λ server at. subst (λ (w : ℕ). honoured (Some server) w (usable st) (serving st server) ≡ false) named.want (left server at);
}

-- the pin goes to the server that is picked
pub moved_on : (shown : Seen) (request : Request) (name : PinId) (held : Held) (cursor : Option Stand) (server : ℕ) (pins : List TablePin)
    → IsNamed shown request name → Stands name held shown.pins → ((s : ℕ) → held.place ≡ Some s → honours shown name.want s ≡ false)
    → IsUsed name (Some server) (max shown.latest request.moment) shown.pins pins
    → ForEach shown (λ state. pin_pick state (keyed request name) state.pins ≡ Some (picked cursor server))
    → ActsOn shown (Serve (keyed request name)) (Served server Moved)
    (record shown { pins = pins; cursor = cursor; latest = max shown.latest request.moment })
moved_on shown request name held cursor server pins named stands left used pick state is =
    at_shown (λ (s : Seen) (st : State). IsNamed s request name → Stands name held s.pins → ((p : ℕ) → held.place ≡ Some p → honours s name.want p ≡ false)
    → IsUsed name (Some server) (max s.latest request.moment) s.pins pins → pin_pick st (keyed request name) st.pins ≡ Some (picked cursor server)
    → Acts st (Serve (keyed request name)) (Served server Moved) (record s { pins = pins; cursor = cursor; latest = max s.latest request.moment }))
    each shown state is named stands left used (pick state is)
  where
    each : (st : State) → IsNamed (seen st) request name → Stands name held st.pins → ((p : ℕ) → held.place ≡ Some p → honours (seen st) name.want p ≡ false)
        → IsUsed name (Some server) (max st.latest request.moment) st.pins pins → pin_pick st (keyed request name) st.pins ≡ Some (picked cursor server)
        → Acts st (Serve (keyed request name)) (Served server Moved) (record (seen st) { pins = pins; cursor = cursor; latest = max st.latest request.moment })
    each st named stands left used pick =
        let found = held_pin name held in
        let now = max st.latest request.moment in
        subst (λ (ps : List TablePin). Acts st (Serve (keyed request name)) (Served server Moved) (record (seen st) { pins = ps; cursor = cursor; latest = now }))
        (sym (used stands.0 found stands.1 stands.2))
        (moved_acts st (keyed request name) stands.0 found stands.1 cursor server (are_servers st (seen st) request.rules refl named.known)
        (moves st request name held named stands left) pick)

pub not_moved_on : (shown : Seen) (request : Request) (name : PinId) (held : Held)
    → IsNamed shown request name → Stands name held shown.pins → ((s : ℕ) → held.place ≡ Some s → honours shown name.want s ≡ false)
    → ForEach shown (λ state. pin_pick state (keyed request name) state.pins ≡ None)
    → ActsOn shown (Serve (keyed request name)) (Refused NoServer) shown
not_moved_on shown request name held named stands left pick state is =
    at_shown (λ (s : Seen) (st : State). IsNamed s request name → Stands name held s.pins → ((p : ℕ) → held.place ≡ Some p → honours s name.want p ≡ false)
    → pin_pick st (keyed request name) st.pins ≡ None → Acts st (Serve (keyed request name)) (Refused NoServer) s)
    each shown state is named stands left (pick state is)
  where
    each : (st : State) → IsNamed (seen st) request name → Stands name held st.pins → ((p : ℕ) → held.place ≡ Some p → honours (seen st) name.want p ≡ false)
        → pin_pick st (keyed request name) st.pins ≡ None → Acts st (Serve (keyed request name)) (Refused NoServer) (seen st)
    each st named stands left pick =
        none_acts st (keyed request name) (are_servers st (seen st) request.rules refl named.known)
        (inl (stands.0, held_pin name held, stands.1, moves st request name held named stands left, pick))

-- a pin is made
makes : (state : State) (shown : Seen) (request : Request) (name : PinId) → seen state ≡ shown → IsNamed shown request name → IsNew name shown.pins
    → (is_full state && keeps_pins state) ≡ false → MakesPin state (keyed request name) name
makes state shown request name is named unknown room = record {
  named = named_at state shown request name is named;
  unknown = subst (λ (ps : List TablePin). IsNew name ps) (sym (ap (λ (s : Seen). s.pins) is)) unknown;
  room = room;
}

pub made_on : (shown : Seen) (request : Request) (name : PinId) (cursor : Option Stand) (server : ℕ) (pins : List TablePin)
    → IsNamed shown request name → IsNew name shown.pins → ForEach shown (λ state. (is_full state && keeps_pins state) ≡ false)
    → ForEach shown (λ state. pins ≡ staying state ++ new_pin name request server (max shown.latest request.moment) ∷ [])
    → ForEach shown (λ state. pin_pick state (keyed request name) (staying state) ≡ Some (picked cursor server))
    → ActsOn shown (Serve (keyed request name)) (Served server Made)
    (record shown { pins = pins; cursor = cursor; latest = max shown.latest request.moment })
made_on shown request name cursor server pins named unknown room put pick state is =
    let acts = made_acts state (keyed request name) name cursor server (are_servers state shown request.rules is named.known)
    (makes state shown request name is named unknown (room state is)) (pick state is) in
    subst (λ (s : Seen). pins ≡ staying state ++ new_pin name request server (max s.latest request.moment) ∷ []
    → Acts state (Serve (keyed request name)) (Served server Made) (record s { pins = pins; cursor = cursor; latest = max s.latest request.moment })) is
    (λ there. subst (λ (ps : List TablePin). Acts state (Serve (keyed request name)) (Served server Made)
    (record (seen state) { pins = ps; cursor = cursor; latest = max state.latest request.moment })) (sym there) acts)
    (put state is)

pub not_made_on : (shown : Seen) (request : Request) (name : PinId)
    → IsNamed shown request name → IsNew name shown.pins → ForEach shown (λ state. (is_full state && keeps_pins state) ≡ false)
    → ForEach shown (λ state. pin_pick state (keyed request name) (staying state) ≡ None)
    → ActsOn shown (Serve (keyed request name)) (Refused NoServer) shown
not_made_on shown request name named unknown room pick state is =
    subst (λ (s : Seen). Acts state (Serve (keyed request name)) (Refused NoServer) s) is
    (none_acts state (keyed request name) (are_servers state shown request.rules is named.known)
    (inr (inl (name, makes state shown request name is named unknown (room state is), pick state is))))
