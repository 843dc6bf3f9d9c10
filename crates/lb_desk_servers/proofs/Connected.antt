-- What connections that open and close do to each state of a farm and a book.
use Rattle.std.proofs.Common.{◌≡◌, ◌≢◌, inl, inr, ℕ, ◌+◌, ◌-◌, ◌≤◌, Bool, true, false, not, ◌&&◌, ◌||◌, cond, eqb, leb, ltb, Option, Some, None, List, length, map, slice_get, slice_set, get_or, refl, sym, ap, ◌∙◌, subst, Result, Ok, Err, arith}
use Rattle.std.specs.Prelude.{OnOk, OnErr}
use Rattle.std.specs.Option.{option_map, option_map_or, unwrap_or}
use Rattle.std.specs.Result.{result_err}
use Rattle.std.proofs.lemmas.Bool.{eq-eqb, eqb-true, false≢true, lt-ltb, le-ltb}
use Rattle.std.proofs.lemmas.Bool.Decides.{leb_tells}
use Rattle.std.proofs.lemmas.List.{length-map}
use Rattle.std.proofs.lemmas.Option.{none-some, slice_get-map, unwrap_or-slice_get}
use Rattle.server_state.specs.Farm.{FarmView, max_connections_of}
use Rattle.server_state.specs.Farm.{usable as usable_of}
use Rattle.server_state.specs.Server.{ServerView}
use Rattle.capacity_book.specs.declared.fault.CloseFault.{CloseFault}
use Rattle.capacity_book.specs.declared.fault.CloseFault.TheVariants.{NotOpen}
use Rattle.capacity_book.specs.declared.fault.OpenFault.{OpenFault}
use Rattle.capacity_book.specs.declared.fault.OpenFault.TheVariants.{Full, NotServing}
use Rattle.capacity_book.specs.Book.{BookView, close_fault, fault_by_maxconn, has_reached, open_fault, with_connections}
use Rattle.capacity_book.specs.Book.{connections_at as open_at}
use Rattle.lb_desk_model.specs.declared.event.Event.{Event}
use Rattle.lb_desk_model.specs.declared.event.Event.TheVariants.{Open, Close}
use Rattle.lb_desk_model.specs.declared.reply.Refusal.{Refusal}
use Rattle.lb_desk_model.specs.declared.reply.Reply.{Reply}
use Rattle.lb_desk_model.specs.declared.reply.Reply.TheVariants.{Opened, Closed, Refused}
use Rattle.lb_desk_model.specs.Picks.{connections_at, has_room, max_connections_at}
use Rattle.lb_desk_model.specs.Seen.{Seen, Next, seen}
use Rattle.lb_desk_model.specs.States.{ServerState, State, farm_of, seen_server, serving, usable, view_server, with_server}
use Rattle.lb_desk_model.specs.Steps.{Does}
use Rattle.lb_desk_servers.specs.Replies.{close_reply, open_reply}
use Rattle.lb_desk_servers.specs.Shown.{StepsAtBook}
use Rattle.lb_desk_servers.proofs.Changed.{connections_of, connections_seen, get_seen, map_same, with_counts}
use Rattle.lb_desk_servers.proofs.Versions.{next_same, same_view}

-- ---- what a book says of a state

counts_seen : (servers : List ServerState) (s : ℕ) → connections_at servers s ≡ get_or (map connections_of servers) s 0
counts_seen servers s =
    go (slice_get servers s)
    ∙ (ap (λ (o : Option ℕ). unwrap_or o 0) (sym (slice_get-map connections_of servers s)) ∙ unwrap_or-slice_get (map connections_of servers) s 0)
  where
    go : (o : Option ServerState) → option_map_or connections_of o 0 ≡ unwrap_or (option_map connections_of o) 0
    go None = refl
    go (Some found) = refl

limit_seen : (state : State) (s : ℕ) → max_connections_at state.servers s ≡ max_connections_of (farm_of state) s
limit_seen state s =
    go (slice_get state.servers s) ∙ ap (λ (o : Option ServerView). option_map_or (λ v. v.max_connections) o 0) (sym (slice_get-map seen_server state.servers s))
  where
    go : (o : Option ServerState)
        → option_map_or (λ v. v.max_connections) o 0 ≡ option_map_or (λ v. v.max_connections) (option_map seen_server o) 0
    go None = refl
    go (Some found) = refl

-- there is room for a connection where the limit isn't reached
room_test : (limit count : ℕ) → (eqb limit 0 || ltb count limit) ≡ not (has_reached limit count)
room_test limit count = go (eqb limit 0)
  where
    below : ltb count limit ≡ not (leb limit count)
    below = elim (leb_tells limit count) [
      | inl reached ↦ rw (reached.0, le-ltb count limit reached.1) refl
      | inr free ↦ rw (free.0, lt-ltb count limit free.1) refl
    ]

    go : (none : Bool) → (none || ltb count limit) ≡ not (not none && leb limit count)
    go true = refl
    go false = below

room_seen : (state : State) (s count : ℕ) → connections_at state.servers s ≡ count
    → has_room state.servers s ≡ not (has_reached (max_connections_of (farm_of state) s) count)
room_seen state s count counted =
    (λ i. eqb (limit_seen state s i) 0 || ltb (counted i) (limit_seen state s i)) ∙ room_test (max_connections_of (farm_of state) s) count

abbrev listed : BookView → List ℕ
listed book = book.connections

-- ---- steps that leave the view

stays : (state : State) (event : Event) (reply : Reply) (connections : List ℕ) → connections ≡ map connections_of state.servers
    → Does state event reply state → Next state event reply (with_counts (seen state) connections)
stays state event reply connections same does =
    next_same state event reply (with_counts (seen state) connections)
    (record { acted = state; does = does; shown = ap (with_counts (seen state)) (sym same) }) (same_view state state refl refl refl)

counts : (state : State) (event : Event) (reply : Reply) (connections : List ℕ) (i count : ℕ) (found : ServerState) → slice_get state.servers i ≡ Some found
    → connections ≡ slice_set (map connections_of state.servers) i count → Does state event reply (with_server state i (record found { connections = count }))
    → Next state event reply (with_counts (seen state) connections)
counts state event reply connections i count found at is does =
    let changed : ServerState = record found { connections = count } in
    let acted = with_server state i changed in
    let shown = connections_seen state i found count at in
    let usables : usable acted ≡ usable state =
    ap (λ (vs : List ServerView). usable_of (record { servers = vs; all_backups = state.all_backups })) (map_same seen_server state.servers i found changed at refl) in
    next_same state event reply (with_counts (seen state) connections)
    (record { acted = acted; does = does; shown = shown ∙ ap (with_counts (seen state)) (sym is) })
    (same_view state acted usables (map_same view_server state.servers i found changed at refl) refl)

-- ---- a connection that opens

opened_parts : (serves reached : Bool) → None ≡ cond (not serves) (Some NotServing) (cond reached (Some Full) None) → (serves ≡ true) × (reached ≡ false)
opened_parts true false e = (refl, refl)
opened_parts true true e = absurd (none-some Full e)
opened_parts false reached e = absurd (none-some NotServing e)

full_parts : (serves reached : Bool) → Some Full ≡ cond (not serves) (Some NotServing) (cond reached (Some Full) None) → (serves ≡ true) × (reached ≡ true)
full_parts true true e = (refl, refl)
full_parts true false e = absurd cc
full_parts false reached e = absurd cc

not_serving_parts : (serves reached : Bool) → Some NotServing ≡ cond (not serves) (Some NotServing) (cond reached (Some Full) None) → serves ≡ false
not_serving_parts false reached e = refl
not_serving_parts true false e = absurd cc
not_serving_parts true true e = absurd cc

serving_found : (state : State) (server : ℕ) → serving state server ≡ true → (found : ServerState) × (slice_get state.servers server ≡ Some found)
serving_found state server serves = go (slice_get state.servers server) refl
  where
    go : (o : Option ServerState) → slice_get state.servers server ≡ o → (found : ServerState) × (slice_get state.servers server ≡ Some found)
    go None at = absurd (false≢true (rw (get_seen state server None at) at serves))
    go (Some found) at = (found, at)

-- what a book counts at a server is what the state has there
counted_at : (state : State) (server : ℕ) (book : BookView) → map connections_of state.servers ≡ book.connections
    → connections_at state.servers server ≡ open_at book server
counted_at state server book counted = counts_seen state.servers server ∙ ap (λ (cs : List ℕ). get_or cs server 0) counted

counted_found : (state : State) (server : ℕ) (book : BookView) (found : ServerState) → slice_get state.servers server ≡ Some found
    → map connections_of state.servers ≡ book.connections → found.connections ≡ open_at book server
counted_found state server book found at counted = rw at at (counted_at state server book counted)

open_at_state : (state : State) (server : ℕ) (result : Result (Unit {0}) OpenFault) (old new : BookView) → map connections_of state.servers ≡ old.connections
    → result_err result ≡ fault_by_maxconn (farm_of state) server (open_at old server)
    → OnOk result (new ≡ with_connections old server (open_at old server + 1)) → OnErr result (new ≡ old)
    → Next state (Open server) (open_reply result) (with_counts (seen state) new.connections)
open_at_state state server (Ok u) old new counted fault ok err =
    let count = open_at old server in
    let parts = opened_parts (serving state server) (has_reached (max_connections_of (farm_of state) server) count) fault in
    let there = serving_found state server parts.0 in
    let found = there.0 in
    let same = counted_found state server old found there.1 counted in
    let is : new.connections ≡ slice_set (map connections_of state.servers) server (found.connections + 1) =
    ap listed ok ∙ (λ i. slice_set (sym counted i) server (sym same i + 1)) in
    counts state (Open server) Opened new.connections server (found.connections + 1) found there.1 is (record {
      found = found;
      is = there.1;
      serves = parts.0;
      room = room_seen state server count (counted_at state server old counted) ∙ ap not parts.1;
      new_is = refl;
    })
open_at_state state server (Err Full) old new counted fault ok err =
    let count = open_at old server in
    let parts = full_parts (serving state server) (has_reached (max_connections_of (farm_of state) server) count) fault in
    stays state (Open server) (Refused Refusal.Full) new.connections (ap listed err ∙ sym counted)
    (parts.0, room_seen state server count (counted_at state server old counted) ∙ ap not parts.1, refl)
open_at_state state server (Err NotServing) old new counted fault ok err =
    let reached = has_reached (max_connections_of (farm_of state) server) (open_at old server) in
    stays state (Open server) (Refused Refusal.NotServing) new.connections (ap listed err ∙ sym counted)
    (not_serving_parts (serving state server) reached fault, refl)

pub open_steps : (farm : FarmView) (old new : BookView) (result : Result (Unit {0}) OpenFault) (server : ℕ)
    → (length farm.servers ≤ length old.connections → open_fault old farm server ≡ fault_by_maxconn farm server (open_at old server))
    → result_err result ≡ open_fault old farm server → OnOk result (new ≡ with_connections old server (open_at old server + 1)) → OnErr result (new ≡ old)
    → StepsAtBook farm old (Open server) (open_reply result) new
open_steps farm old new result server law fault ok err shown farm_is counts_are state is =
    subst (λ (s : Seen). s.farm ≡ farm → s.connections ≡ old.connections → Next state (Open server) (open_reply result) (with_counts s new.connections))
    is at_state farm_is counts_are
  where
    at_state : farm_of state ≡ farm → map connections_of state.servers ≡ old.connections
        → Next state (Open server) (open_reply result) (with_counts (seen state) new.connections)
    at_state there counted =
        let servers = length-map state.servers seen_server in
        let all = length-map state.servers connections_of in
        let seen_there : length (map seen_server state.servers) ≡ length farm.servers = ap (λ (f : FarmView). length f.servers) there in
        let counted_there : length (map connections_of state.servers) ≡ length old.connections = ap length counted in
        let many : length farm.servers ≤ length old.connections = omega arith in
        let by = fault ∙ (law many ∙ ap (λ (f : FarmView). fault_by_maxconn f server (open_at old server)) (sym there)) in
        open_at_state state server result old new counted by ok err

-- ---- a connection that closes

close_at_state : (state : State) (server : ℕ) (result : Result (Unit {0}) CloseFault) (old new : BookView) → map connections_of state.servers ≡ old.connections
    → result_err result ≡ close_fault old server
    → OnOk result (new ≡ with_connections old server (open_at old server - 1)) → OnErr result (new ≡ old)
    → Next state (Close server) (close_reply result) (with_counts (seen state) new.connections)
close_at_state state server (Ok u) old new counted fault ok err = go (slice_get state.servers server) refl
  where
    some : open_at old server ≢ 0
    some none = none-some NotOpen (rw (eq-eqb (open_at old server) 0 none) at fault)

    go : (o : Option ServerState) → slice_get state.servers server ≡ o → Next state (Close server) Closed (with_counts (seen state) new.connections)
    go None at = absurd (some (sym (counted_at state server old counted) ∙ rw at refl))
    go (Some found) at =
        let same = counted_found state server old found at counted in
        let is : new.connections ≡ slice_set (map connections_of state.servers) server (found.connections - 1) =
        ap listed ok ∙ (λ i. slice_set (sym counted i) server (sym same i - 1)) in
        let more = some in
        counts state (Close server) Closed new.connections server (found.connections - 1) found at is
        (record { found = found; is = at; some = omega (arith, same, more); new_is = refl })
close_at_state state server (Err NotOpen) old new counted fault ok err =
    stays state (Close server) (Refused Refusal.NotOpen) new.connections (ap listed err ∙ sym counted)
    (counted_at state server old counted ∙ none (eqb (open_at old server) 0) refl fault, refl)
  where
    none : (b : Bool) → eqb (open_at old server) 0 ≡ b → Some NotOpen ≡ cond b (Some NotOpen) None → open_at old server ≡ 0
    none true e f = eqb-true (open_at old server) 0 e
    none false e f = absurd cc

pub close_steps : (farm : FarmView) (old new : BookView) (result : Result (Unit {0}) CloseFault) (server : ℕ) → result_err result ≡ close_fault old server
    → OnOk result (new ≡ with_connections old server (open_at old server - 1)) → OnErr result (new ≡ old)
    → StepsAtBook farm old (Close server) (close_reply result) new
close_steps farm old new result server fault ok err shown farm_is counts_are state is =
    subst (λ (s : Seen). s.connections ≡ old.connections → Next state (Close server) (close_reply result) (with_counts s new.connections))
    is (λ counted. close_at_state state server result old new counted fault ok err) counts_are
