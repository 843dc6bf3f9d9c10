-- In every history of a backend the view is lawful.
use Rattle.std.proofs.Common.{◌≡◌, ◌≢◌, ℕ, ◌+◌, ◌-◌, ◌^◌, ◌<◌, ◌≤◌, zero, suc, Bool, true, false, not, cond, leb, ltb, Option, Some, None, List, [], ◌∷◌, ◌++◌, length, map, drop, get_or, refl, sym, ap, ◌∙◌, inl, inr, arith}
use Rattle.std.specs.Prelude.{filter, All, AllPairs, IsSome, slice_get, slice_set}
use Rattle.std.specs.List.{zip}
use Rattle.std.specs.Option.{option_map, option_map_or, option_and_then}
use Rattle.std.proofs.Math.ListN
use Rattle.std.proofs.lemmas.List.{length-map, get_or-map}
use Rattle.std.proofs.lemmas.List.Kept.{AllPairs-cons}
use Rattle.std.proofs.lemmas.List.Elements.{All-head, All-tail, All-cons, All-nil}
use Rattle.lb_types.specs.Names.{is_name}
use Rattle.pin_set.specs.declared.pin.Pin.{Pin}
use Rattle.pin_set.specs.declared.view.ViewServer.{ViewServer}
use Rattle.pin_set.specs.declared.pin.PinId.{PinId}
use Rattle.pin_set.specs.declared.totals.Score.{Score}
use Rattle.pin_set.specs.Assignments.{may_go, MayGo}
use Rattle.lb_types.specs.Servers.{has}
use Rattle.cert_check_law.proofs.Views.{permitted_usable}
use Rattle.lb_desk_law.proofs.Accepted.{best_of_accepted}
use Rattle.server_state.specs.declared.change.ChangeFault.TheVariants.{OutOfRange, NoSuchServer as NoServerFault}
use Rattle.pin_set.specs.Views.{IsView, IsBelow, kind_of}
use Rattle.server_state.specs.declared.checked.Checked.TheVariants.{Took, Ignored}
use Rattle.lb_types.specs.declared.table_settings.TableSettings.{TableSettings}
use Rattle.dual_cert_plan.specs.Plans.{PlanParts}
use Rattle.server_state.specs.declared.change.Setting.{Setting}
use Rattle.server_state.specs.declared.change.Setting.TheVariants.{Admin, Health, Weight, MaxConnections, MaxPins}
use Rattle.server_state.specs.Changes.{fault_at, fault_of}
use Rattle.std.proofs.lemmas.Option.{slice_get-map}
use Rattle.std.proofs.lemmas.Bool.{false≢true, leb-false, ltb-false}
use Rattle.lb_desk_model.specs.declared.backend.BackendServer.{BackendServer}
use Rattle.lb_desk_model.specs.declared.entry.Entry.{Entry}
use Rattle.lb_desk_model.specs.declared.event.Event.{Event}
use Rattle.lb_desk_model.specs.declared.event.Event.TheVariants.{Serve, Set, Clear, Open, Close, Expire, Check, Command, Snapshot, Install}
use Rattle.lb_desk_model.specs.declared.event.Request.{Request}
use Rattle.lb_desk_model.specs.declared.event.SetPin.{SetPin}
use Rattle.lb_desk_model.specs.declared.reply.Refusal.TheVariants.{NoSuchServer, Full, NotServing, NotOpen, TableFull, Stale, Bad, NoServer}
use Rattle.lb_desk_model.specs.declared.reply.Reply.{Reply}
use Rattle.lb_desk_model.specs.declared.reply.Reply.TheVariants.{Served, Pinned, NoTable, Cleared, NoPin, Opened, Closed, Expired, Checked, Done, Sheet, Installed, Refused}
use Rattle.lb_desk_model.specs.declared.reply.PinnedAs.{PinnedAs}
use Rattle.lb_desk_model.specs.declared.reply.PinnedAs.TheVariants as Put
use Rattle.lb_desk_model.specs.declared.reply.ServedAs.{ServedAs}
use Rattle.lb_desk_model.specs.declared.reply.ServedAs.TheVariants.{Kept, Moved, Made, Loose}
use Rattle.pin_set.specs.declared.table_pin.TablePin.{TablePin}
use Rattle.lb_desk_model.specs.Backends.{BackendParts, IsBackend}
use Rattle.lb_desk_model.specs.Histories.{History}
use Rattle.lb_desk_model.specs.Serves.{Serves, is_full, staying, name_of, pin_name, want_of, used_at, new_pin, moment_of}
use Rattle.lb_desk_model.specs.Servers.{with_setting, with_result}
use Rattle.lb_desk_model.specs.Installs.{Installs}
use Rattle.lb_desk_model.specs.Sets.{AreThere, Clears, Sets, set_pin}
use Rattle.lb_desk_model.specs.States.{ServerState, State, with_server, opening, view_of, view_server, server_at_start, seen_server, farm_of, usable}
use Rattle.lb_desk_model.specs.Steps.{Does, Step, has_expired}
use Rattle.lb_desk_law.proofs.Apart.{Apart, DifferFrom, all_moved, history-apart}
use Rattle.lb_desk_law.specs.LawfulViews.{ViewsAreLawful}
use Rattle.lb_desk_law.proofs.Chosen.{pin_server, usable_server}

abbrev pub name_of_server : ServerState → List ℕ
name_of_server s = s.name

abbrev pub names_of : List ServerState → List (List ℕ)
names_of servers = map name_of_server servers

-- no server may hold more pins than a table may have
abbrev pub FewEach : List ServerState → Type 0
FewEach [] = Unit {0}
FewEach (s ∷ servers) = (s.capacity ≤ 16777216) × FewEach servers

names-set : (servers : List ServerState) (i : ℕ) (found changed : ServerState) → slice_get servers i ≡ Some found → changed.name ≡ found.name
    → names_of (slice_set servers i changed) ≡ names_of servers
names-set [] i found changed at same = absurd cc
names-set (s ∷ servers) zero found changed at same =
    let is : s ≡ found = cc in
    let e : changed.name ≡ s.name = same ∙ sym (ap name_of_server is) in
    rw e refl
names-set (s ∷ servers) (suc i) found changed at same = ap (λ (ns : List (List ℕ)). s.name ∷ ns) (names-set servers i found changed at same)

few-set : (servers : List ServerState) (i : ℕ) (changed : ServerState) → changed.capacity ≤ 16777216 → FewEach servers → FewEach (slice_set servers i changed)
few-set [] i changed few all = tt
few-set (s ∷ servers) zero changed few all = (few, all.1)
few-set (s ∷ servers) (suc i) changed few all = (all.0, few-set servers i changed few all.1)

few-at : (servers : List ServerState) (i : ℕ) (found : ServerState) → slice_get servers i ≡ Some found → FewEach servers → found.capacity ≤ 16777216
few-at [] i found at all = absurd cc
few-at (s ∷ servers) zero found at all = let is : s ≡ found = cc in rw is at all.0
few-at (s ∷ servers) (suc i) found at all = few-at servers i found at all.1

-- a pin is at one of the first n servers or at none, at a lawful cost
pub record IsPinOf (n : ℕ) (p : TablePin) : Type 0 where
  pub place : IsBelow n p.pin.place
  pub cost_from : 1 ≤ p.pin.cost
  pub cost_to : p.pin.cost ≤ 1000

abbrev pub ArePins : ℕ → List TablePin → Type 0
ArePins n [] = Unit {0}
ArePins n (p ∷ pins) = IsPinOf n p × ArePins n pins

are-both : (n : ℕ) (xs ys : List TablePin) → ArePins n xs → ArePins n ys → ArePins n (xs ++ ys)
are-both n [] ys a b = b
are-both n (x ∷ xs) ys a b = (a.0, are-both n xs ys a.1 b)

are-cut : (n : ℕ) (xs ys : List TablePin) → ArePins n (xs ++ ys) → ArePins n xs × ArePins n ys
are-cut n [] ys a = (tt, a)
are-cut n (x ∷ xs) ys a = let rest = are-cut n xs ys a.1 in ((a.0, rest.0), rest.1)

are-drop : (n : ℕ) (xs : List TablePin) → ArePins n xs → ArePins n (drop 1 xs)
are-drop n [] a = tt
are-drop n (x ∷ xs) a = a.1

are-staying : (n : ℕ) (b : Bool) (xs : List TablePin) → ArePins n xs → ArePins n (cond b (drop 1 xs) xs)
are-staying n true xs a = are-drop n xs a
are-staying n false xs a = a

are-filter : (n : ℕ) (keep : TablePin → Bool) (xs : List TablePin) → ArePins n xs → ArePins n (filter keep xs)
are-filter n keep [] a = tt
are-filter n keep (x ∷ xs) a =
    elim (keep x) as (λ b. ArePins n (cond b (x ∷ filter keep xs) (filter keep xs))) [
      | true ↦ (a.0, are-filter n keep xs a.1)
      | false ↦ are-filter n keep xs a.1
    ]

are-moved : (n : ℕ) (xs : List TablePin) (places : List (Option ℕ)) → ArePins n xs → All (IsBelow n) places → ArePins n (all_moved xs places)
are-moved n [] places a below = tt
are-moved n (x ∷ xs) [] a below = tt
are-moved n (x ∷ xs) (place ∷ places) a below = (
  record { place = All-head (IsBelow n) place places below; cost_from = a.0.cost_from; cost_to = a.0.cost_to },
  are-moved n xs places a.1 (All-tail (IsBelow n) place places below),
)

moved-le : (xs : List TablePin) (places : List (Option ℕ)) → length (all_moved xs places) ≤ length xs
moved-le [] places = omega arith
moved-le (x ∷ xs) [] = omega arith
moved-le (x ∷ xs) (place ∷ places) = let rest = moved-le xs places in omega arith

filter-le : (keep : TablePin → Bool) (xs : List TablePin) → length (filter keep xs) ≤ length xs
filter-le keep [] = omega arith
filter-le keep (x ∷ xs) =
    let rest = filter-le keep xs in
    elim (keep x) as (λ b. length (cond b (x ∷ filter keep xs) (filter keep xs)) ≤ length (x ∷ xs)) [
      | true ↦ omega arith
      | false ↦ omega arith
    ]

length-both : (xs ys : List TablePin) → length (xs ++ ys) ≡ length xs + length ys
length-both [] ys = omega arith
length-both (x ∷ xs) ys = let rest = length-both xs ys in omega arith

-- ---- what every state of the backend keeps

abbrev pub size_of : Option TableSettings → ℕ
size_of table = option_map_or (λ t. t.size) table 0

pub record Sound (backend : BackendParts) (state : State) : Type 0 where
  pub names : names_of state.servers ≡ map (λ s. s.name) backend.servers
  pub few : FewEach state.servers
  pub table : state.table ≡ backend.table
  pub fits : length state.pins ≤ size_of state.table
  pub pins : ArePins (length state.servers) state.pins

same-sound : (backend : BackendParts) (old new : State) → new ≡ old → Sound backend old → Sound backend new
same-sound backend old new e sound = rw e sound

length-names : (servers : List ServerState) (i : ℕ) (found changed : ServerState) → slice_get servers i ≡ Some found → changed.name ≡ found.name
    → length (slice_set servers i changed) ≡ length servers
length-names servers i found changed at same =
    sym (length-map (slice_set servers i changed) name_of_server) ∙ (ap length (names-set servers i found changed at same) ∙ length-map servers name_of_server)

server-sound : (backend : BackendParts) (old new : State) (i : ℕ) (found changed : ServerState) → slice_get old.servers i ≡ Some found
    → changed.name ≡ found.name → changed.capacity ≤ 16777216 → new ≡ with_server old i changed → Sound backend old → Sound backend new
server-sound backend old new i found changed at same cap e sound = rw e (record {
  names = names-set old.servers i found changed at same ∙ sound.names;
  few = few-set old.servers i changed cap sound.few;
  table = sound.table;
  fits = sound.fits;
  pins = rw (length-names old.servers i found changed at same) sound.pins;
})

pins-sound : (backend : BackendParts) (old new : State) (pins : List TablePin) → new.servers ≡ old.servers → new.table ≡ old.table → new.pins ≡ pins
    → length pins ≤ size_of old.table → ArePins (length old.servers) pins → Sound backend old → Sound backend new
pins-sound backend old new pins servers table is fits are sound = record {
  names = rw servers sound.names;
  few = rw servers sound.few;
  table = table ∙ sound.table;
  fits = rw (is, table) fits;
  pins = rw (is, servers) are;
}

abbrev servers_of : State → List ServerState
servers_of s = s.servers

abbrev table_of : State → Option TableSettings
table_of s = s.table

abbrev pins_of : State → List TablePin
pins_of s = s.pins

-- the used pin is behind the others
to_end-fits : (before : List TablePin) (found : TablePin) (after : List TablePin) (used : TablePin) (most : ℕ)
    → length (before ++ found ∷ after) ≤ most → length ((before ++ after) ++ used ∷ []) ≤ most
to_end-fits before found after used most fits =
    let one = length-both before (found ∷ after) in
    let two = length-both before after in
    let three = length-both (before ++ after) (used ∷ []) in
    omega arith

to_end-are : (n : ℕ) (before : List TablePin) (found : TablePin) (after : List TablePin) (used : TablePin) → (IsPinOf n found → IsPinOf n used)
    → ArePins n (before ++ found ∷ after) → ArePins n ((before ++ after) ++ used ∷ [])
to_end-are n before found after used keep are =
    let parts = are-cut n before (found ∷ after) are in
    are-both n (before ++ after) (used ∷ []) (are-both n before after parts.0 parts.1.1) (keep parts.1.0, tt)

at_server : (n server : ℕ) → server < n → IsBelow n (Some server)
at_server n server below = λ s e. let same : server ≡ s = cc in rw same at below

made-fits : (state : State) (table : TableSettings) (used : TablePin) → state.table ≡ Some table → length state.pins ≤ size_of state.table
    → length (staying state ++ used ∷ []) ≤ size_of state.table
made-fits state table used is fits =
    let size : size_of state.table ≡ table.size = ap size_of is in
    let some : 1 ≤ table.size = table.size_from in
    let full : is_full state ≡ leb table.size (length state.pins) = ap (λ t. option_map_or (λ (t : TableSettings). leb t.size (length state.pins)) t true) is in
    let both = length-both (staying state) (used ∷ []) in
    let stay : length (staying state) + 1 ≤ table.size = go (is_full state) state.pins full (rw size at fits) some in
    omega arith
  where
    go : (b : Bool) (pins : List TablePin) → b ≡ leb table.size (length pins) → length pins ≤ table.size → 1 ≤ table.size
        → length (cond b (drop 1 pins) pins) + 1 ≤ table.size
    go true [] e fits some = omega arith
    go true (p ∷ pins) e fits some = omega arith
    go false pins e fits some = let below = leb-false table.size (length pins) (sym e) in omega arith

record HasTable (state : State) : Type 0 where
  table : TableSettings
  is : state.table ≡ Some table

named-table : (state : State) (request : Request) (name : PinId) → name_of state request ≡ Some name → HasTable state
named-table state request name e = go state.table refl e
  where
    go : (t : Option TableSettings) → state.table ≡ t → option_and_then (λ table. option_map (λ key. pin_name key (want_of request)) request.key) t ≡ Some name → HasTable state
    go None is e = absurd cc
    go (Some table) is e = record { table = table; is = is }

some-table : (state : State) → IsSome state.table → HasTable state
some-table state some = go state.table refl some
  where
    go : (t : Option TableSettings) → state.table ≡ t → IsSome t → HasTable state
    go None is some = absurd (false≢true some)
    go (Some table) is some = record { table = table; is = is }

serves-sound : (backend : BackendParts) (old : State) (request : Request) (server : ℕ) (how : ServedAs) (new : State) → Sound backend old
    → Serves old request server how new → Sound backend new
serves-sound backend old request server Kept new sound s =
    let used = used_at s.1 server (moment_of old request.moment) in
    let n = length old.servers in
    pins-sound backend old new _ (ap servers_of s.4) (ap table_of s.4) (ap pins_of s.4)
    (to_end-fits s.0 s.1 s.2 used (size_of old.table) (rw s.3.stands.is at sound.fits))
    (to_end-are n s.0 s.1 s.2 used (λ k. record { place = rw s.3.at at k.place; cost_from = k.cost_from; cost_to = k.cost_to }) (rw s.3.stands.is at sound.pins))
    sound
serves-sound backend old request server Moved new sound s =
    let used = used_at s.1 server (moment_of old request.moment) in
    let n = length old.servers in
    let below = at_server n server (pin_server old request old.pins s.3 server s.5) in
    pins-sound backend old new _ (ap servers_of s.6) (ap table_of s.6) (ap pins_of s.6)
    (to_end-fits s.0 s.1 s.2 used (size_of old.table) (rw s.4.stands.is at sound.fits))
    (to_end-are n s.0 s.1 s.2 used (λ k. record { place = below; cost_from = k.cost_from; cost_to = k.cost_to }) (rw s.4.stands.is at sound.pins))
    sound
serves-sound backend old request server Made new sound s =
    let used = new_pin s.0 request server (moment_of old request.moment) in
    let n = length old.servers in
    let below = at_server n server (pin_server old request (staying old) s.1 server s.3) in
    let has = named-table old request s.0 s.2.named in
    pins-sound backend old new _ (ap servers_of s.4) (ap table_of s.4) (ap pins_of s.4)
    (made-fits old has.table used has.is sound.fits)
    (are-both n (staying old) (used ∷ []) (are-staying n (is_full old) old.pins sound.pins) (record { place = below; cost_from = request.cost_from; cost_to = request.cost_to }, tt))
    sound
serves-sound backend old request server Loose new sound s =
    pins-sound backend old new old.pins (ap servers_of s.3) (ap table_of s.3) (ap pins_of s.3) sound.fits sound.pins sound

-- ---- pins that are set and cleared

sets-sound : (backend : BackendParts) (old : State) (set : SetPin) (how : PinnedAs) (new : State) → Sound backend old
    → AreThere old set → IsSome old.table → Sets old set how new → Sound backend new
sets-sound backend old set Put.Kept new sound there some s =
    let used = used_at s.1 set.server (moment_of old set.moment) in
    let n = length old.servers in
    let below = at_server n set.server there.server in
    pins-sound backend old new _ (ap servers_of s.5) (ap table_of s.5) (ap pins_of s.5)
    (to_end-fits s.0 s.1 s.2 used (size_of old.table) (rw s.3.is at sound.fits))
    (to_end-are n s.0 s.1 s.2 used (λ k. record { place = below; cost_from = k.cost_from; cost_to = k.cost_to }) (rw s.3.is at sound.pins))
    sound
sets-sound backend old set Put.Moved new sound there some s =
    let used = used_at s.1 set.server (moment_of old set.moment) in
    let n = length old.servers in
    let below = at_server n set.server there.server in
    pins-sound backend old new _ (ap servers_of s.5) (ap table_of s.5) (ap pins_of s.5)
    (to_end-fits s.0 s.1 s.2 used (size_of old.table) (rw s.3.is at sound.fits))
    (to_end-are n s.0 s.1 s.2 used (λ k. record { place = below; cost_from = k.cost_from; cost_to = k.cost_to }) (rw s.3.is at sound.pins))
    sound
sets-sound backend old set Put.Made new sound there some s =
    let used = set_pin set (moment_of old set.moment) in
    let n = length old.servers in
    let below = at_server n set.server there.server in
    let has = some-table old some in
    pins-sound backend old new _ (ap servers_of s.2) (ap table_of s.2) (ap pins_of s.2)
    (made-fits old has.table used has.is sound.fits)
    (are-both n (staying old) (used ∷ []) (are-staying n (is_full old) old.pins sound.pins) (record { place = below; cost_from = set.cost_from; cost_to = set.cost_to }, tt))
    sound

without-fits : (before : List TablePin) (found : TablePin) (after : List TablePin) (most : ℕ)
    → length (before ++ found ∷ after) ≤ most → length (before ++ after) ≤ most
without-fits before found after most fits =
    let one = length-both before (found ∷ after) in
    let two = length-both before after in
    omega arith

without-are : (n : ℕ) (before : List TablePin) (found : TablePin) (after : List TablePin) → ArePins n (before ++ found ∷ after)
    → ArePins n (before ++ after)
without-are n before found after are =
    let parts = are-cut n before (found ∷ after) are in
    are-both n before after parts.0 parts.1.1

clears-sound : (backend : BackendParts) (old : State) (name : PinId) (new : State) → Sound backend old → Clears old name new → Sound backend new
clears-sound backend old name new sound c =
    pins-sound backend old new (c.before ++ c.after) (ap servers_of c.new_is) (ap table_of c.new_is) (ap pins_of c.new_is)
    (without-fits c.before c.found c.after (size_of old.table) (rw c.stands.is at sound.fits))
    (without-are (length old.servers) c.before c.found c.after (rw c.stands.is at sound.pins))
    sound

-- ---- changes

pub setting-name : (found : ServerState) (setting : Setting) → (with_setting found setting).name ≡ found.name
setting-name found (Admin admin) = refl
setting-name found (Health up) = refl
setting-name found (Weight weight) = refl
setting-name found (MaxConnections limit) = refl
setting-name found (MaxPins limit) = refl

setting-few : (found : ServerState) (setting : Setting) → fault_at (seen_server found) setting ≡ None → found.capacity ≤ 16777216
    → (with_setting found setting).capacity ≤ 16777216
setting-few found (Admin admin) none few = few
setting-few found (Health up) none few = few
setting-few found (Weight weight) none few = few
setting-few found (MaxConnections limit) none few = few
setting-few found (MaxPins limit) none few = go (ltb 16777216 limit) refl none
  where
    go : (b : Bool) → ltb 16777216 limit ≡ b → cond b (Some OutOfRange) None ≡ None → limit ≤ 16777216
    go true e none = absurd cc
    go false e none = ltb-false 16777216 limit e

fault-none : (old : State) (server : ℕ) (found : ServerState) (setting : Setting) → slice_get old.servers server ≡ Some found
    → fault_of (farm_of old) server setting ≡ None → fault_at (seen_server found) setting ≡ None
fault-none old server found setting at none =
    let seen : slice_get (map seen_server old.servers) server ≡ Some (seen_server found) =
    slice_get-map seen_server old.servers server ∙ ap (option_map seen_server) at in
    sym (ap (λ o. option_map_or (λ f. fault_at f setting) o (Some NoServerFault)) seen) ∙ none

-- ---- plans

places-below : (u n : ℕ) → ((s : ℕ) → has u s ≡ true → s < n) → (pins : List Pin) (places : List (Option ℕ)) → length places ≡ length (map (kind_of u) pins)
    → All MayGo (zip (map (kind_of u) pins) places) → All (IsBelow n) places
places-below u n usable [] [] e may = All-nil (IsBelow n)
places-below u n usable [] (to ∷ places) e may = absurd (omega arith)
places-below u n usable (p ∷ pins) [] e may = All-nil (IsBelow n)
places-below u n usable (p ∷ pins) (to ∷ places) e may =
    let here : may_go (kind_of u p) to ≡ true = All-head MayGo (kind_of u p, to) (zip (map (kind_of u) pins) places) may in
    All-cons (IsBelow n) to places
    (λ s at.
    let permitted : has (kind_of u p).permitted s ≡ true = rw at at here in
    usable s (permitted_usable p.id.want u s permitted))
    (places-below u n usable pins places (omega arith) (All-tail MayGo (kind_of u p, to) (zip (map (kind_of u) pins) places) may))

install-sound : (backend : BackendParts) (old : State) (plan : PlanParts) (score : Score) (new : State) → Sound backend old → Installs old plan score new → Sound backend new
install-sound backend old plan score new sound i =
    let best = best_of_accepted i.judges.sheet plan i.accepted i.judges.of.lawful i.judges.verdict in
    let lawful = (best.best (view_of old) i.places i.judges.of.stands i.agrees).lawful in
    let below = places-below (usable old) (length old.servers) (usable_server old) (map (λ (p : TablePin). p.pin) old.pins) i.places lawful.whole lawful.permitted in
    pins-sound backend old new (all_moved old.pins i.places) (ap servers_of i.new_is) (ap table_of i.new_is) (ap pins_of i.new_is)
    (let less = moved-le old.pins i.places in let fits = sound.fits in omega arith) (are-moved (length old.servers) old.pins i.places sound.pins below) sound

-- ---- all events

does-sound : (backend : BackendParts) (old : State) (event : Event) (reply : Reply) (new : State) → Sound backend old → Does old event reply new → Sound backend new
does-sound backend old (Serve request) (Served server how) new sound d = serves-sound backend old request server how new sound d.1
does-sound backend old (Serve request) (Refused NoSuchServer) new sound d = same-sound backend old new d.1 sound
does-sound backend old (Serve request) (Refused NoServer) new sound d = same-sound backend old new d.2 sound
does-sound backend old (Set set) (Pinned how) new sound d = sets-sound backend old set how new sound d.0 d.1 d.2
does-sound backend old (Set set) NoTable new sound d = same-sound backend old new d.2 sound
does-sound backend old (Set set) (Refused NoSuchServer) new sound d = same-sound backend old new d.1 sound
does-sound backend old (Set set) (Refused TableFull) new sound d = same-sound backend old new d.3 sound
does-sound backend old (Clear name) Cleared new sound d = clears-sound backend old name new sound d
does-sound backend old (Clear name) NoPin new sound d = same-sound backend old new d.1 sound
does-sound backend old (Open server) Opened new sound d =
    server-sound backend old new server d.found (record d.found { connections = d.found.connections + 1 }) d.is refl (few-at old.servers server d.found d.is sound.few) d.new_is sound
does-sound backend old (Open server) (Refused NotServing) new sound d = same-sound backend old new d.1 sound
does-sound backend old (Open server) (Refused Full) new sound d = same-sound backend old new d.2 sound
does-sound backend old (Close server) Closed new sound d =
    server-sound backend old new server d.found (record d.found { connections = d.found.connections - 1 }) d.is refl (few-at old.servers server d.found d.is sound.few) d.new_is sound
does-sound backend old (Close server) (Refused NotOpen) new sound d = same-sound backend old new d.1 sound
does-sound backend old (Expire now) (Expired count) new sound d =
    let keep : TablePin → Bool = λ p. not (has_expired old (moment_of old now) p) in
    pins-sound backend old new (filter keep old.pins) (ap servers_of d.1) (ap table_of d.1) (ap pins_of d.1)
    (let less = filter-le keep old.pins in let fits = sound.fits in omega arith) (are-filter (length old.servers) keep old.pins sound.pins) sound
does-sound backend old (Check server ok) (Checked (Took flip)) new sound d =
    server-sound backend old new server d.found (record d.found { checks = Some (with_result d.checks ok) }) d.is refl (few-at old.servers server d.found d.is sound.few) d.new_is sound
does-sound backend old (Check server ok) (Checked Ignored) new sound d = same-sound backend old new d.1 sound
does-sound backend old (Check server ok) (Refused refusal) new sound d = same-sound backend old new d.1 sound
does-sound backend old (Command change) Done new sound d =
    let none = fault-none old change.server d.found change.setting d.is d.no_fault in
    server-sound backend old new change.server d.found (with_setting d.found change.setting) d.is (setting-name d.found change.setting)
    (setting-few d.found change.setting none (few-at old.servers change.server d.found d.is sound.few)) d.new_is sound
does-sound backend old (Command change) (Refused refusal) new sound d = same-sound backend old new d.1 sound
does-sound backend old Snapshot (Sheet sheet) new sound d = same-sound backend old new d.1 sound
does-sound backend old (Install plan) (Refused Stale) new sound d = same-sound backend old new d.1 sound
does-sound backend old (Install plan) (Refused (Bad fault)) new sound d = same-sound backend old new d.2 sound
does-sound backend old (Install plan) (Installed score) new sound d = install-sound backend old plan score new sound d.1
does-sound backend old event reply new sound d = absurd d

version-sound : (backend : BackendParts) (state : State) (version : ℕ) → Sound backend state → Sound backend (record state { version = version })
version-sound backend state version sound = record { names = sound.names; few = sound.few; table = sound.table; fits = sound.fits; pins = sound.pins }

pub step-sound : (backend : BackendParts) (old : State) (event : Event) (reply : Reply) (new : State) → Sound backend old → Step old event reply new → Sound backend new
step-sound backend old event reply new sound step =
    let acted = does-sound backend old event reply step.acted sound step.does in
    elim step.counts [
      | inl same ↦ same-sound backend step.acted new same.1 acted
      | inr more ↦ rw more.1 (version-sound backend step.acted (old.version + 1) acted)
    ]

history-sound : (backend : BackendParts) (old : State) (entries : List Entry) (new : State) → Sound backend old → History old entries new → Sound backend new
history-sound backend old [] new sound history = same-sound backend old new history sound
history-sound backend old (entry ∷ entries) new sound history =
    history-sound backend history.0 entries new (step-sound backend old entry.event entry.reply history.0 sound history.1) history.2

opening-names : (servers : List BackendServer) → names_of (map server_at_start servers) ≡ map (λ s. s.name) servers
opening-names [] = refl
opening-names (s ∷ servers) = ap (λ (ns : List (List ℕ)). s.name ∷ ns) (opening-names servers)

opening-few : (servers : List BackendServer) → FewEach (map server_at_start servers)
opening-few [] = tt
opening-few (s ∷ servers) = (s.settings.max_pins_in_range, opening-few servers)

opening-sound : (backend : BackendParts) → Sound backend (opening backend)
opening-sound backend = record {
  names = opening-names backend.servers;
  few = opening-few backend.servers;
  table = refl;
  fits = omega arith;
  pins = tt;
}

-- ---- the view of such a state

abbrev IsNamed : ViewServer → Type 0
IsNamed s = is_name s.name ≡ true

abbrev IsNamedThere : BackendServer → Type 0
IsNamedThere s = is_name s.name ≡ true

abbrev view_name : ViewServer → List ℕ
view_name s = s.name

abbrev backend_name : BackendServer → List ℕ
backend_name s = s.name

abbrev pub pin_of : TablePin → Pin
pin_of p = p.pin

abbrev first_or : List (List ℕ) → List ℕ
first_or [] = []
first_or (n ∷ ns) = n

abbrev rest_of : List (List ℕ) → List (List ℕ)
rest_of [] = []
rest_of (n ∷ ns) = ns

named-views : (servers : List ServerState) (bs : List BackendServer) → names_of servers ≡ map backend_name bs → All IsNamedThere bs
    → All IsNamed (map view_server servers)
named-views [] bs e named = All-nil IsNamed
named-views (s ∷ servers) [] e named = absurd cc
named-views (s ∷ servers) (b ∷ bs) e named =
    let first : s.name ≡ b.name = ap first_or e in
    All-cons IsNamed (view_server s) (map view_server servers) (ap is_name first ∙ All-head IsNamedThere b bs named)
    (named-views servers bs (ap rest_of e) (All-tail IsNamedThere b bs named))

view-names : (servers : List ServerState) → map view_name (map view_server servers) ≡ names_of servers
view-names [] = refl
view-names (s ∷ servers) = ap (λ (ns : List (List ℕ)). s.name ∷ ns) (view-names servers)

view-name-at : (views : List ViewServer) (b : BackendServer) (bs : List BackendServer) (i : ℕ) (d : ViewServer) → map view_name views ≡ map backend_name (b ∷ bs)
    → i < length (b ∷ bs) → (get_or views i d).name ≡ (get_or (b ∷ bs) i b).name
view-name-at views b bs i d e within =
    sym (ListN.get_or-map view_name views i d)
    ∙ (ap (λ (ns : List (List ℕ)). get_or ns i d.name) e ∙ get_or-map backend_name (b ∷ bs) i b d.name within)

distinct-views : (views : List ViewServer) (bs : List BackendServer) → map view_name views ≡ map backend_name bs → AllPairs (λ a b. a.name ≢ b.name) bs
    → AllPairs (λ a b. a.name ≢ b.name) views
distinct-views views [] e distinct = λ i j d below within.
    let many : length views ≡ 0 = sym (length-map views view_name) ∙ ap length e in
    absurd (omega arith)
distinct-views views (b ∷ bs) e distinct = λ i j d below within.
    let many : length views ≡ length (b ∷ bs) = sym (length-map views view_name) ∙ (ap length e ∙ length-map (b ∷ bs) backend_name) in
    let first = view-name-at views b bs i d e (omega arith) in
    let second = view-name-at views b bs j d e (omega arith) in
    let apart = distinct i j b below (omega arith) in
    λ (same : (get_or views i d).name ≡ (get_or views j d).name). apart (sym first ∙ (same ∙ second))

room-views : (servers : List ServerState) → FewEach servers → All (λ (s : ViewServer). s.capacity < 2 ^ 32) (map view_server servers)
room-views [] few = All-nil (λ (s : ViewServer). s.capacity < 2 ^ 32)
room-views (s ∷ servers) few =
    All-cons (λ (v : ViewServer). v.capacity < 2 ^ 32) (view_server s) (map view_server servers) (let here = few.0 in omega arith) (room-views servers few.1)

abbrev pub IdsDiffer : Pin → Pin → Type 0
IdsDiffer a b = a.id ≢ b.id

differ-views : (p : TablePin) (pins : List TablePin) → DifferFrom p pins → All (IdsDiffer p.pin) (map pin_of pins)
differ-views p [] d = All-nil (IdsDiffer p.pin)
differ-views p (q ∷ pins) d = All-cons (IdsDiffer p.pin) q.pin (map pin_of pins) d.0 (differ-views p pins d.1)

pub distinct-pins : (pins : List TablePin) → Apart pins → AllPairs IdsDiffer (map pin_of pins)
distinct-pins [] a = λ i j d below within. absurd (omega arith)
distinct-pins (p ∷ pins) a = AllPairs-cons IdsDiffer p.pin (map pin_of pins) (differ-views p pins a.0) (distinct-pins pins a.1)

place-views : (n : ℕ) (pins : List TablePin) → ArePins n pins → All (λ (p : Pin). IsBelow n p.place) (map pin_of pins)
place-views n [] a = All-nil (λ (p : Pin). IsBelow n p.place)
place-views n (p ∷ pins) a = All-cons (λ (q : Pin). IsBelow n q.place) p.pin (map pin_of pins) a.0.place (place-views n pins a.1)

from-views : (n : ℕ) (pins : List TablePin) → ArePins n pins → All (λ (p : Pin). 1 ≤ p.cost) (map pin_of pins)
from-views n [] a = All-nil (λ (p : Pin). 1 ≤ p.cost)
from-views n (p ∷ pins) a = All-cons (λ (q : Pin). 1 ≤ q.cost) p.pin (map pin_of pins) a.0.cost_from (from-views n pins a.1)

to-views : (n : ℕ) (pins : List TablePin) → ArePins n pins → All (λ (p : Pin). p.cost ≤ 1000) (map pin_of pins)
to-views n [] a = All-nil (λ (p : Pin). p.cost ≤ 1000)
to-views n (p ∷ pins) a = All-cons (λ (q : Pin). q.cost ≤ 1000) p.pin (map pin_of pins) a.0.cost_to (to-views n pins a.1)

size-le : (table : Option TableSettings) → size_of table ≤ 16777216
size-le None = omega arith
size-le (Some table) = table.size_to

pub is_view : (backend : BackendParts) (state : State) → IsBackend backend → Sound backend state → Apart state.pins → IsView (view_of state)
is_view backend state lawful sound apart =
    let views : length (map view_server state.servers) ≡ length state.servers = length-map state.servers view_server in
    let many : length state.servers ≡ length backend.servers =
    sym (length-map state.servers name_of_server) ∙ (ap length sound.names ∙ length-map backend.servers backend_name) in
    let pins : length (map pin_of state.pins) ≡ length state.pins = length-map state.pins pin_of in
    let few = lawful.few in
    let fits = sound.fits in
    let most = size-le state.table in
    record {
      few_servers = omega arith;
      named = named-views state.servers backend.servers sound.names lawful.named;
      room = room-views state.servers sound.few;
      distinct_servers = distinct-views (map view_server state.servers) backend.servers (view-names state.servers ∙ sound.names) lawful.distinct;
      usable = λ s e. let below = usable_server state s e in omega arith;
      few_pins = omega arith;
      distinct_pins = distinct-pins state.pins apart;
      places = place-views (length (map view_server state.servers)) state.pins (rw views sound.pins);
      cost_from = from-views (length state.servers) state.pins sound.pins;
      cost_to = to-views (length state.servers) state.pins sound.pins;
    }

pub views_are_lawful : ViewsAreLawful
views_are_lawful backend entries state lawful history =
    is_view backend state lawful (history-sound backend (opening backend) entries state (opening-sound backend) history)
    (history-apart (opening backend) entries state tt history)
