-- Whether an event changed the view, by its reply.
use Rattle.std.proofs.Common.{◌≡◌, ◌↔◌, ℕ, ◌+◌, ◌-◌, zero, suc, Bool, true, not, Option, Some, List, [], ◌∷◌, ◌++◌, length, length-append, map, slice_get, slice_set, refl, sym, ap, ◌∙◌, subst, inl, inr, arith}
use Rattle.std.specs.Prelude.{filter, count_by}
use Rattle.std.specs.Option.{option_map_or}
use Rattle.std.specs.List.Sorted.{IsPermutation}
use Rattle.std.proofs.lemmas.Bool.{false≢true}
use Rattle.std.proofs.lemmas.List.{length-map}
use Rattle.std.proofs.lemmas.List.Sorted.{IsPermutation-refl, length_permutation}
use Rattle.pin_set.specs.declared.pin.Pin.{Pin}
use Rattle.pin_set.specs.declared.pin.PinId.{PinId}
use Rattle.pin_set.specs.declared.totals.Score.{Score}
use Rattle.pin_set.specs.declared.view.ViewServer.{ViewServer}
use Rattle.pin_set.specs.Pins.{honoured}
use Rattle.pin_set.specs.Views.{ViewParts, kind_of}
use Rattle.dual_cert_plan.specs.Plans.{PlanParts}
use Rattle.server_state.specs.Farm.{FarmView, capacity_of}
use Rattle.server_state.specs.declared.checked.Checked.TheVariants.{Took, Ignored}
use Rattle.lb_desk_model.specs.declared.event.Event.{Event}
use Rattle.lb_desk_model.specs.declared.event.Event.TheVariants.{Serve, Set, Clear, Open, Close, Expire, Check, Command, Snapshot, Install}
use Rattle.lb_desk_model.specs.declared.event.Request.{Request}
use Rattle.lb_desk_model.specs.declared.event.SetPin.{SetPin}
use Rattle.lb_desk_model.specs.declared.reply.Refusal.TheVariants.{NoSuchServer, Full, NotServing, NotOpen, TableFull, Stale, Bad, NoServer}
use Rattle.lb_desk_model.specs.declared.reply.Reply.{Reply}
use Rattle.lb_desk_model.specs.declared.reply.Reply.TheVariants.{Served, Pinned, NoTable, Cleared, NoPin, Opened, Closed, Expired, Checked, Done, Sheet, Installed, Refused}
use Rattle.lb_desk_model.specs.declared.reply.PinnedAs.{PinnedAs}
use Rattle.lb_desk_model.specs.declared.reply.PinnedAs.TheVariants as Put
use Rattle.lb_desk_model.specs.declared.reply.ServedAs.{ServedAs}
use Rattle.lb_desk_model.specs.declared.reply.ServedAs.TheVariants.{Kept, Moved, Made, Loose}
use Rattle.pin_set.specs.declared.table_pin.TablePin.{TablePin}
use Rattle.lb_desk_model.specs.Installs.{Installs}
use Rattle.lb_desk_model.specs.Seen.{Seen, view_seen}
use Rattle.lb_desk_model.specs.Serves.{Serves, MovesPin, want_of, moment_of, new_pin, staying, used_at}
use Rattle.lb_desk_model.specs.Servers.{with_setting, with_result}
use Rattle.lb_desk_model.specs.Sets.{Clears, Sets, set_pin}
use Rattle.lb_desk_model.specs.States.{ServerState, State, SameView, farm_of, opening, seen_server, serving, usable, view_of, view_server, with_server}
use Rattle.lb_desk_model.specs.Steps.{Does, has_expired}
use Rattle.lb_desk_law.proofs.Apart.{Apart, all_moved, history-apart}
use Rattle.lb_desk_law.proofs.Lawful.{pin_of, setting-name}
use Rattle.lb_desk_law.proofs.SameViews.{same_view-equal, same_view-refl}
use Rattle.lb_desk_law.proofs.Versions.{does-version}
use Rattle.lb_desk_seen.specs.Replies.{KeepsView, RepliesTellViews, RepliesTellVersions}
use Rattle.lb_desk_seen.proofs.Changed.{connections_are_seen, map_same, views_are_seen, views_shown}
use Rattle.lb_desk_seen.proofs.Placed.{filter-count, kept-permuted, made-differs, moved-same, none-filtered, none-moved, same-places}
use Rattle.lb_desk_seen.proofs.Usable.{picked_honours}

abbrev Same : State → State → Type 0
Same old new = SameView (view_of old) (view_of new)

-- the view stays exactly where the reply says so
abbrev Told : State → Event → Reply → State → Type 0
Told old event reply new = Same old new ↔ KeepsView (farm_of old) event reply (farm_of new)

same_views : (old new : State) → view_of new ≡ view_of old → Same old new
same_views old new e = rw e (same_view-refl (view_of old))

-- ---- requests

abbrev pins_in : ViewParts → List Pin
pins_in v = v.pins

-- the same servers and usable ones, and the pins in another order
reordered : (old new : State) (pins : List TablePin) → new.servers ≡ old.servers → new.all_backups ≡ old.all_backups → new.pins ≡ pins
    → IsPermutation (map pin_of old.pins) (map pin_of pins) → Same old new
reordered old new pins servers backups is order = record {
  usable = rw (servers, backups) refl;
  servers = rw servers refl;
  pins = rw is order;
}

abbrev servers_of : State → List ServerState
servers_of s = s.servers

abbrev backups_of : State → Bool
backups_of s = s.all_backups

abbrev pins_of : State → List TablePin
pins_of s = s.pins

-- the place that a pin moves to isn't the one where it was
elsewhere : (old : State) (request : Request) (before : List TablePin) (found : TablePin) (after : List TablePin) (server : ℕ)
    → MovesPin old request before found after
    → honoured (Some server) (want_of request) (usable old) (serving old server) ≡ true → Some server ≡ found.pin.place → ⊥
elsewhere old request before found after server moves honours same =
    false≢true (sym (moves.not_honoured server (sym same)) ∙ honours)

serves-kept : (old : State) (request : Request) (server : ℕ) (new : State) → Serves old request server Kept new → Same old new
serves-kept old request server new s =
    let used = used_at s.1 server (moment_of old request.moment) in
    let stood : used.pin ≡ s.1.pin = ap (λ (place : Option ℕ). record s.1.pin { place = place }) (sym s.3.at) in
    let order = kept-permuted s.0 s.1 s.2 used stood in
    reordered old new (s.0 ++ s.2 ++ used ∷ []) (ap servers_of s.4) (ap backups_of s.4) (ap pins_of s.4) (rw s.3.stands.is order)

serves-moved : (old : State) (request : Request) (server : ℕ) (new : State) → Apart old.pins → Serves old request server Moved new → Same old new → ⊥
serves-moved old request server new apart s same =
    let used = used_at s.1 server (moment_of old request.moment) in
    let stood : Apart (s.0 ++ s.1 ∷ s.2) = rw s.4.stands.is at apart in
    let old_pins : (view_of old).pins ≡ map pin_of (s.0 ++ s.1 ∷ s.2) = ap (map pin_of) s.4.stands.is in
    let new_pins : (view_of new).pins ≡ map pin_of (s.0 ++ s.2 ++ used ∷ []) = ap (map pin_of) (ap pins_of s.6) in
    let order : IsPermutation (map pin_of (s.0 ++ s.1 ∷ s.2)) (map pin_of (s.0 ++ s.2 ++ used ∷ [])) =
    subst (λ (ps : List Pin). IsPermutation ps (map pin_of (s.0 ++ s.2 ++ used ∷ []))) old_pins
    (subst (λ (ps : List Pin). IsPermutation (view_of old).pins ps) new_pins same.pins) in
    let is : used.pin ≡ s.1.pin = moved-same s.0 s.1 s.2 used refl stood order in
    elsewhere old request s.0 s.1 s.2 server s.4 (picked_honours old request old.pins s.3 server s.5) (ap (λ (p : Pin). p.place) is)

serves-made : (old : State) (request : Request) (server : ℕ) (new : State) → Serves old request server Made new → Same old new → ⊥
serves-made old request server new s same =
    let used = new_pin s.0 request server (moment_of old request.moment) in
    let new_pins : (view_of new).pins ≡ map pin_of (staying old ++ used ∷ []) = ap (map pin_of) (ap pins_of s.4) in
    let order : IsPermutation (map pin_of old.pins) (map pin_of (staying old ++ used ∷ [])) =
    subst (λ (ps : List Pin). IsPermutation (view_of old).pins ps) new_pins same.pins in
    made-differs s.0 old.pins (staying old) used refl s.2.unknown order

serves-loose : (old : State) (request : Request) (server : ℕ) (new : State) → Serves old request server Loose new → Same old new
serves-loose old request server new s = same_views old new (ap view_of s.3)

serves-told : (old : State) (request : Request) (server : ℕ) (how : ServedAs) (new : State) → Apart old.pins → Serves old request server how new
    → Told old (Serve request) (Served server how) new
serves-told old request server Kept new apart s = let same = serves-kept old request server new s in (λ e. tt, λ e. same)
serves-told old request server Moved new apart s = (serves-moved old request server new apart s, λ e. absurd e)
serves-told old request server Made new apart s = (serves-made old request server new s, λ e. absurd e)
serves-told old request server Loose new apart s = let same = serves-loose old request server new s in (λ e. tt, λ e. same)

-- ---- pins that are set and cleared

sets-kept : (old : State) (set : SetPin) (new : State) → Sets old set Put.Kept new → Same old new
sets-kept old set new s =
    let used = used_at s.1 set.server (moment_of old set.moment) in
    let stood : used.pin ≡ s.1.pin = ap (λ (place : Option ℕ). record s.1.pin { place = place }) (sym s.4) in
    let order = kept-permuted s.0 s.1 s.2 used stood in
    reordered old new (s.0 ++ s.2 ++ used ∷ []) (ap servers_of s.5) (ap backups_of s.5) (ap pins_of s.5) (rw s.3.is order)

sets-moved : (old : State) (set : SetPin) (new : State) → Apart old.pins → Sets old set Put.Moved new → Same old new → ⊥
sets-moved old set new apart s same =
    let used = used_at s.1 set.server (moment_of old set.moment) in
    let stood : Apart (s.0 ++ s.1 ∷ s.2) = rw s.3.is at apart in
    let old_pins : (view_of old).pins ≡ map pin_of (s.0 ++ s.1 ∷ s.2) = ap (map pin_of) s.3.is in
    let new_pins : (view_of new).pins ≡ map pin_of (s.0 ++ s.2 ++ used ∷ []) = ap (map pin_of) (ap pins_of s.5) in
    let order : IsPermutation (map pin_of (s.0 ++ s.1 ∷ s.2)) (map pin_of (s.0 ++ s.2 ++ used ∷ [])) =
    subst (λ (ps : List Pin). IsPermutation ps (map pin_of (s.0 ++ s.2 ++ used ∷ []))) old_pins
    (subst (λ (ps : List Pin). IsPermutation (view_of old).pins ps) new_pins same.pins) in
    let is : used.pin ≡ s.1.pin = moved-same s.0 s.1 s.2 used refl stood order in
    s.4 (sym (ap (λ (p : Pin). p.place) is))

sets-made : (old : State) (set : SetPin) (new : State) → Sets old set Put.Made new → Same old new → ⊥
sets-made old set new s same =
    let used = set_pin set (moment_of old set.moment) in
    let new_pins : (view_of new).pins ≡ map pin_of (staying old ++ used ∷ []) = ap (map pin_of) (ap pins_of s.2) in
    let order : IsPermutation (map pin_of old.pins) (map pin_of (staying old ++ used ∷ [])) =
    subst (λ (ps : List Pin). IsPermutation (view_of old).pins ps) new_pins same.pins in
    made-differs set.name old.pins (staying old) used refl s.0 order

sets-told : (old : State) (set : SetPin) (how : PinnedAs) (new : State) → Apart old.pins → Sets old set how new
    → Told old (Set set) (Pinned how) new
sets-told old set Put.Kept new apart s = let same = sets-kept old set new s in (λ e. tt, λ e. same)
sets-told old set Put.Moved new apart s = (sets-moved old set new apart s, λ e. absurd e)
sets-told old set Put.Made new apart s = (sets-made old set new s, λ e. absurd e)

clears-changes : (old : State) (name : PinId) (new : State) → Clears old name new → Same old new → ⊥
clears-changes old name new c same =
    let lengths = length_permutation (view_of old).pins (view_of new).pins same.pins in
    let old_many : length (view_of old).pins ≡ length old.pins = length-map old.pins pin_of in
    let new_many : length (view_of new).pins ≡ length new.pins = length-map new.pins pin_of in
    let was : length old.pins ≡ length (c.before ++ c.found ∷ c.after) = ap length c.stands.is in
    let left : length new.pins ≡ length (c.before ++ c.after) = ap (λ (s : State). length s.pins) c.new_is in
    let one = length-append c.before (c.found ∷ c.after) in
    let two = length-append c.before c.after in
    omega arith

-- ---- servers

counted-view : (old : State) (server count : ℕ) (found : ServerState) → slice_get old.servers server ≡ Some found
    → view_of (with_server old server (record found { connections = count })) ≡ view_of old
counted-view old server count found at =
    views_are_seen (with_server old server (record found { connections = count }))
    ∙ (ap view_seen (connections_are_seen old server found count at) ∙ sym (views_are_seen old))

-- where a server keeps its name and its capacity, the usable servers alone decide
set-told : (old : State) (i : ℕ) (found changed : ServerState) → slice_get old.servers i ≡ Some found → view_server changed ≡ view_server found
    → usable (with_server old i changed) ≡ usable old → Same old (with_server old i changed)
set-told old i found changed at same usable_same = record {
  usable = sym usable_same;
  servers = sym (map_same view_server old.servers i found changed at same);
  pins = IsPermutation-refl (map pin_of old.pins);
}

capacity-viewed : (servers : List ServerState) (i : ℕ)
    → option_map_or (λ f. f.max_pins) (slice_get (map seen_server servers) i) 0 ≡ option_map_or (λ v. v.capacity) (slice_get (map view_server servers) i) 0
capacity-viewed [] i = refl
capacity-viewed (s ∷ servers) zero = refl
capacity-viewed (s ∷ servers) (suc i) = capacity-viewed servers i

capacity-found : (servers : List ServerState) (i : ℕ) (found : ServerState) → slice_get servers i ≡ Some found
    → option_map_or (λ f. f.max_pins) (slice_get (map seen_server servers) i) 0 ≡ found.capacity
capacity-found [] i found at = absurd cc
capacity-found (s ∷ servers) zero found at = let is : s ≡ found = cc in ap (λ (x : ServerState). x.capacity) is
capacity-found (s ∷ servers) (suc i) found at = capacity-found servers i found at

get-set : (servers : List ServerState) (i : ℕ) (found changed : ServerState) → slice_get servers i ≡ Some found
    → slice_get (slice_set servers i changed) i ≡ Some changed
get-set [] i found changed at = absurd cc
get-set (s ∷ servers) zero found changed at = refl
get-set (s ∷ servers) (suc i) found changed at = get-set servers i found changed at

abbrev viewed : List ℕ → ℕ → ViewServer
viewed name capacity = record { name = name; capacity = capacity }

command-told : (old : State) (i : ℕ) (found changed : ServerState) → slice_get old.servers i ≡ Some found → changed.name ≡ found.name
    → Same old (with_server old i changed)
    ↔ ((usable (with_server old i changed) ≡ usable old) × (capacity_of (farm_of (with_server old i changed)) i ≡ capacity_of (farm_of old) i))
command-told old i found changed at named = (
  λ same. (
    sym same.usable,
    capacity-viewed (slice_set old.servers i changed) i
        ∙ (ap (λ (vs : List ViewServer). option_map_or (λ v. v.capacity) (slice_get vs i) 0) (sym same.servers) ∙ sym (capacity-viewed old.servers i)),
  ),
  λ kept.
      let new : capacity_of (farm_of (with_server old i changed)) i ≡ changed.capacity =
      capacity-found (slice_set old.servers i changed) i changed (get-set old.servers i found changed at) in
      let was : capacity_of (farm_of old) i ≡ found.capacity = capacity-found old.servers i found at in
      let room : changed.capacity ≡ found.capacity = sym new ∙ (kept.1 ∙ was) in
      let is : view_server changed ≡ view_server found =
      ap (λ (n : List ℕ). viewed n changed.capacity) named ∙ ap (λ (c : ℕ). viewed found.name c) room in
      set-told old i found changed at is kept.0,
)

-- ---- pins that go, and plans

expire-told : (old : State) (now count : ℕ) (new : State) → count ≡ count_by (has_expired old (moment_of old now)) old.pins
    → new ≡ record old { pins = filter (λ p. not (has_expired old (moment_of old now) p)) old.pins } → Same old new ↔ (count ≡ 0)
expire-told old now count new many is = (
  λ same.
      let test = has_expired old (moment_of old now) in
      let lengths = length_permutation (view_of old).pins (view_of new).pins same.pins in
      let old_many : length (view_of old).pins ≡ length old.pins = length-map old.pins pin_of in
      let new_many : length (view_of new).pins ≡ length new.pins = length-map new.pins pin_of in
      let left : length new.pins ≡ length (filter (λ p. not (test p)) old.pins) = ap (λ (s : State). length s.pins) is in
      let both = filter-count test old.pins in
      omega arith,
  λ none.
      let all = none-filtered (has_expired old (moment_of old now)) old.pins (sym many ∙ none) in
      same_view-equal old new (is ∙ ap (λ (ps : List TablePin). record old { pins = ps }) all),
)

install-told : (old : State) (plan : PlanParts) (score : Score) (new : State) → Apart old.pins → Installs old plan score new
    → Same old new ↔ (score.moved ≡ 0)
install-told old plan score new apart i =
    let kinds = length-map (map pin_of old.pins) (kind_of (usable old)) in
    let pins = length-map old.pins pin_of in
    let long : length i.places ≡ length old.pins = i.agrees.whole ∙ (kinds ∙ pins) in
    let moved = ap (λ (s : Score). s.moved) i.score_is in (
      λ same.
          let new_pins : (view_of new).pins ≡ map pin_of (all_moved old.pins i.places) = ap (map pin_of) (ap pins_of i.new_is) in
          let order : IsPermutation (map pin_of old.pins) (map pin_of (all_moved old.pins i.places)) =
          subst (λ (ps : List Pin). IsPermutation (view_of old).pins ps) new_pins same.pins in
          moved ∙ same-places (usable old) old.pins i.places apart order,
      λ none.
          let stay = none-moved (usable old) old.pins i.places long (sym moved ∙ none) in
          same_view-equal old new (i.new_is ∙ ap (λ (ps : List TablePin). record old { pins = ps }) stay),
    )

-- ---- all events

kept : (old : State) (event : Event) (reply : Reply) (new : State) → KeepsView (farm_of old) event reply (farm_of new) → Same old new → Told old event reply new
kept old event reply new keeps same = (λ e. keeps, λ e. same)

does-told : (old : State) (event : Event) (reply : Reply) (new : State) → Apart old.pins → Does old event reply new → Told old event reply new
does-told old (Serve request) (Served server how) new apart d = serves-told old request server how new apart d.1
does-told old (Serve request) (Refused NoSuchServer) new apart d = kept old (Serve request) (Refused NoSuchServer) new tt (same_view-equal old new d.1)
does-told old (Serve request) (Refused NoServer) new apart d = kept old (Serve request) (Refused NoServer) new tt (same_view-equal old new d.2)
does-told old (Set set) (Pinned how) new apart d = sets-told old set how new apart d.2
does-told old (Set set) NoTable new apart d = kept old (Set set) NoTable new tt (same_view-equal old new d.2)
does-told old (Set set) (Refused NoSuchServer) new apart d = kept old (Set set) (Refused NoSuchServer) new tt (same_view-equal old new d.1)
does-told old (Set set) (Refused TableFull) new apart d = kept old (Set set) (Refused TableFull) new tt (same_view-equal old new d.3)
does-told old (Clear name) Cleared new apart d = (clears-changes old name new d, λ e. absurd e)
does-told old (Clear name) NoPin new apart d = kept old (Clear name) NoPin new tt (same_view-equal old new d.1)
does-told old (Open server) Opened new apart d =
    kept old (Open server) Opened new tt
    (same_views old new (ap view_of d.new_is ∙ counted-view old server (d.found.connections + 1) d.found d.is))
does-told old (Open server) (Refused NotServing) new apart d = kept old (Open server) (Refused NotServing) new tt (same_view-equal old new d.1)
does-told old (Open server) (Refused Full) new apart d = kept old (Open server) (Refused Full) new tt (same_view-equal old new d.2)
does-told old (Close server) Closed new apart d =
    kept old (Close server) Closed new tt
    (same_views old new (ap view_of d.new_is ∙ counted-view old server (d.found.connections - 1) d.found d.is))
does-told old (Close server) (Refused NotOpen) new apart d = kept old (Close server) (Refused NotOpen) new tt (same_view-equal old new d.1)
does-told old (Expire now) (Expired count) new apart d = expire-told old now count new d.0 d.1
does-told old (Check server ok) (Checked (Took flip)) new apart d =
    let changed : ServerState = record d.found { checks = Some (with_result d.checks ok) } in
    let told : Told old (Check server ok) (Checked (Took flip)) (with_server old server changed) =
    (λ same. sym same.usable, λ e. set-told old server d.found changed d.is refl e) in
    subst (λ (s : State). Told old (Check server ok) (Checked (Took flip)) s) (sym d.new_is) told
does-told old (Check server ok) (Checked Ignored) new apart d = kept old (Check server ok) (Checked Ignored) new tt (same_view-equal old new d.1)
does-told old (Check server ok) (Refused refusal) new apart d = kept old (Check server ok) (Refused refusal) new tt (same_view-equal old new d.1)
does-told old (Command change) Done new apart d =
    subst (λ (s : State). Told old (Command change) Done s) (sym d.new_is)
    (command-told old change.server d.found (with_setting d.found change.setting) d.is (setting-name d.found change.setting))
does-told old (Command change) (Refused refusal) new apart d = kept old (Command change) (Refused refusal) new tt (same_view-equal old new d.1)
does-told old Snapshot (Sheet sheet) new apart d = kept old Snapshot (Sheet sheet) new tt (same_view-equal old new d.1)
does-told old (Install plan) (Refused Stale) new apart d = kept old (Install plan) (Refused Stale) new tt (same_view-equal old new d.1)
does-told old (Install plan) (Refused (Bad fault)) new apart d = kept old (Install plan) (Refused (Bad fault)) new tt (same_view-equal old new d.2)
does-told old (Install plan) (Installed score) new apart d = install-told old plan score new apart d.1
does-told old event reply new apart d = absurd d

-- ---- the laws

abbrev farm_seen : Seen → FarmView
farm_seen s = s.farm

pub replies_tell_views : RepliesTellViews
replies_tell_views backend log state event reply new history a =
    let apart = history-apart (opening backend) log state tt history in
    let told = does-told state event reply a.acted apart a.does in
    let views = views_shown state a.acted new a.shown in
    let farms : farm_of a.acted ≡ new.farm = ap farm_seen a.shown in (
      λ same. subst (λ (f : FarmView). KeepsView (farm_of state) event reply f) farms (told.0 (subst (λ (X : Type 0). X) views same)),
      λ keeps.
          subst (λ (X : Type 0). X) (sym views)
          (told.1 (subst (λ (f : FarmView). KeepsView (farm_of state) event reply f) (sym farms) keeps)),
    )

pub replies_tell_versions : RepliesTellVersions
replies_tell_versions backend log old event reply new history step =
    let apart = history-apart (opening backend) log old tt history in
    let told = does-told old event reply step.acted apart step.does in
    let version = does-version old event reply step.acted step.does in
    elim step.counts [
      | inl same ↦
          let farms : farm_of step.acted ≡ farm_of new = sym (ap farm_of same.1) in
          inl (subst (λ (f : FarmView). KeepsView (farm_of old) event reply f) farms (told.0 same.0), ap (λ (s : State). s.version) same.1 ∙ version)
      | inr more ↦
          let farms : farm_of new ≡ farm_of step.acted = ap farm_of more.1 in
          inr (
            λ keeps. more.0 (told.1 (subst (λ (f : FarmView). KeepsView (farm_of old) event reply f) farms keeps)),
            ap (λ (s : State). s.version) more.1,
          )
    ]
