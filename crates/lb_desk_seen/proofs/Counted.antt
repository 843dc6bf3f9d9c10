-- What steps do to the numbers that a desk keeps.
use Rattle.std.proofs.Common.{◌≡◌, ◌↔◌, ◌≤◌, ◌<◌, ◌⊎◌, ◌^◌, ℕ, ◌+◌, ◌-◌, zero, suc, Bool, true, false, not, ◌&&◌, leb, Some, List, [], ◌∷◌, map, length, slice_get, slice_set, refl, sym, ap, ◌∙◌, inl, inr, arith}
use Rattle.std.specs.Prelude.{sum}
use Rattle.std.specs.Option.{unwrap_or}
use Rattle.std.proofs.lemmas.Bool.{leb-true, leb-false, false≢true}
use Rattle.std.proofs.lemmas.List.Sums.{sum_by-cons, count_by-le-length}
use Rattle.server_state.specs.declared.change.Setting.{Setting}
use Rattle.server_state.specs.declared.change.Setting.TheVariants.{Admin, Health, Weight, MaxConnections, MaxPins}
use Rattle.server_state.specs.declared.checked.Checked.TheVariants.{Took, Ignored}
use Rattle.lb_desk_model.specs.declared.backend.BackendServer.{BackendServer}
use Rattle.lb_desk_model.specs.declared.entry.Entry.{Entry}
use Rattle.lb_desk_model.specs.declared.event.Event.{Event}
use Rattle.lb_desk_model.specs.declared.event.Event.TheVariants.{Serve, Set, Clear, Open, Close, Expire, Check, Command, Snapshot, Install}
use Rattle.lb_desk_model.specs.declared.event.Request.{Request}
use Rattle.lb_desk_model.specs.declared.event.SetPin.{SetPin}
use Rattle.lb_desk_model.specs.declared.reply.Refusal.TheVariants.{NoSuchServer, Full, NotServing, NotOpen, TableFull, Stale, Bad, NoServer}
use Rattle.lb_desk_model.specs.declared.reply.Reply.{Reply}
use Rattle.lb_desk_model.specs.declared.reply.Reply.TheVariants.{Served, Pinned, NoTable, Cleared, NoPin, Opened, Closed, Expired, Checked, Done, Sheet, Installed, Refused}
use Rattle.lb_desk_model.specs.declared.reply.PinnedAs.{PinnedAs}
use Rattle.lb_desk_model.specs.declared.reply.PinnedAs.TheVariants as Put
use Rattle.lb_desk_model.specs.declared.reply.ServedAs.{ServedAs}
use Rattle.lb_desk_model.specs.declared.reply.ServedAs.TheVariants.{Kept, Moved, Made, Loose}
use Rattle.lb_desk_model.specs.Histories.{History}
use Rattle.lb_desk_model.specs.Picks.{connections_at}
use Rattle.lb_desk_model.specs.Seen.{Seen, seen, view_seen}
use Rattle.lb_desk_model.specs.Serves.{Serves}
use Rattle.lb_desk_model.specs.Servers.{with_setting}
use Rattle.lb_desk_model.specs.Sets.{Sets}
use Rattle.lb_desk_model.specs.States.{ServerState, State, SameView, opening, server_at_start, view_of, with_server}
use Rattle.lb_desk_model.specs.Steps.{Does, Step}
use Rattle.lb_desk_model.specs.Worn.{ends_one, is_use, is_worn, open_at, open_connections}
use Rattle.lb_desk_law.proofs.SameViews.{same_view-refl}
use Rattle.lb_desk_law.proofs.Versions.{does-version}
use Rattle.lb_desk_seen.specs.Counting.{EndsOne, WornIsExact, CountsAreFew, Fits, StepsFit, NoneIsWorn, HistoriesFit}
use Rattle.lb_desk_seen.proofs.Changed.{connections_are_seen, views_are_seen}

abbrev count_of : ServerState → ℕ
count_of s = s.connections

abbrev counts_of : List ServerState → ℕ
counts_of servers = sum (map count_of servers)

abbrev open_in : State → ℕ
open_in state = open_connections (seen state)

-- ---- connections of changed servers

counts-cons : (s : ServerState) (servers : List ServerState) → counts_of (s ∷ servers) ≡ s.connections + counts_of servers
counts-cons s servers = sum_by-cons (λ (x : ℕ). x) s.connections (map count_of servers)

counts-set : (servers : List ServerState) (i : ℕ) (found changed : ServerState) → slice_get servers i ≡ Some found
    → counts_of (slice_set servers i changed) + found.connections ≡ counts_of servers + changed.connections
counts-set [] i found changed at = absurd cc
counts-set (s ∷ servers) zero found changed at =
    let is : s ≡ found = cc in
    let same : s.connections ≡ found.connections = ap count_of is in
    let old = counts-cons s servers in
    let new = counts-cons changed servers in
    omega arith
counts-set (s ∷ servers) (suc i) found changed at =
    let rest = counts-set servers i found changed at in
    let old = counts-cons s servers in
    let new = counts-cons s (slice_set servers i changed) in
    omega arith

-- one server is changed, and its connections stay as many
same-counts : (old new : State) (i : ℕ) (found changed : ServerState) → slice_get old.servers i ≡ Some found → changed.connections ≡ found.connections
    → new ≡ with_server old i changed → open_in new ≡ open_in old
same-counts old new i found changed at same e =
    let both = counts-set old.servers i found changed at in
    let is : open_in new ≡ counts_of (slice_set old.servers i changed) = ap open_in e in
    omega arith

setting-count : (found : ServerState) (setting : Setting) → (with_setting found setting).connections ≡ found.connections
setting-count found (Admin admin) = refl
setting-count found (Health up) = refl
setting-count found (Weight weight) = refl
setting-count found (MaxConnections limit) = refl
setting-count found (MaxPins limit) = refl

open_at-is : (servers : List ServerState) (i : ℕ)
    → unwrap_or (slice_get (map count_of servers) i) 0 ≡ connections_at servers i
open_at-is [] i = refl
open_at-is (s ∷ servers) zero = refl
open_at-is (s ∷ servers) (suc i) = open_at-is servers i

none-open : (servers : List BackendServer) → counts_of (map server_at_start servers) ≡ 0
none-open [] = refl
none-open (s ∷ servers) =
    let rest = none-open servers in
    let all = counts-cons (server_at_start s) (map server_at_start servers) in
    omega arith

-- ---- one event

-- a connection has ended, and nothing else was done that is counted
record Ended (old : State) (reply : Reply) (new : State) : Type 0 where
  open_ones : open_in new + 1 ≡ open_in old
  view : view_of new ≡ view_of old
  no_use : is_use reply ≡ false

-- at most one connection was opened
record Went (old : State) (event : Event) (new : State) : Type 0 where
  none_ends : ends_one (seen old) event ≡ false
  open_ones : open_in new ≤ open_in old + 1

abbrev Counted : State → Event → Reply → State → Type 0
Counted old event reply new = Ended old reply new ⊎ Went old event new

same-open : (old new : State) → open_in new ≡ open_in old → open_in new ≤ open_in old + 1
same-open old new e = omega arith

unchanged : (old : State) (event : Event) (reply : Reply) (new : State) → ends_one (seen old) event ≡ false → new ≡ old → Counted old event reply new
unchanged old event reply new none e = inr (record { none_ends = none; open_ones = same-open old new (ap open_in e) })

serves-open : (old : State) (request : Request) (server : ℕ) (how : ServedAs) (new : State) → Serves old request server how new → open_in new ≡ open_in old
serves-open old request server Kept new s = ap open_in s.4
serves-open old request server Moved new s = ap open_in s.6
serves-open old request server Made new s = ap open_in s.4
serves-open old request server Loose new s = ap open_in s.3

sets-open : (old : State) (set : SetPin) (how : PinnedAs) (new : State) → Sets old set how new → open_in new ≡ open_in old
sets-open old set Put.Kept new s = ap open_in s.5
sets-open old set Put.Moved new s = ap open_in s.5
sets-open old set Put.Made new s = ap open_in s.2

ended : (old : State) (server count : ℕ) (found : ServerState) (new : State) → slice_get old.servers server ≡ Some found → count + 1 ≡ found.connections
    → new ≡ with_server old server (record found { connections = count }) → Ended old Closed new
ended old server count found new at less e =
    let both = counts-set old.servers server found (record found { connections = count }) at in
    let is : open_in new ≡ counts_of (slice_set old.servers server (record found { connections = count })) = ap open_in e in
    record {
      open_ones = omega arith;
      view = ap view_of e ∙ (views_are_seen (with_server old server (record found { connections = count }))
          ∙ (ap view_seen (connections_are_seen old server found count at) ∙ sym (views_are_seen old)));
      no_use = refl;
    }

opened : (old : State) (server : ℕ) (found : ServerState) (new : State) → slice_get old.servers server ≡ Some found
    → new ≡ with_server old server (record found { connections = found.connections + 1 }) → Went old (Open server) new
opened old server found new at e =
    let both = counts-set old.servers server found (record found { connections = found.connections + 1 }) at in
    let is : open_in new ≡ counts_of (slice_set old.servers server (record found { connections = found.connections + 1 })) = ap open_in e in
    record { none_ends = refl; open_ones = omega arith }

none-at : (old : State) (server : ℕ) → connections_at old.servers server ≡ 0 → ends_one (seen old) (Close server) ≡ false
none-at old server none =
    let is : open_at (seen old) server ≡ 0 = open_at-is old.servers server ∙ none in
    ap (λ (n : ℕ). leb 1 n) is

does-counts : (old : State) (event : Event) (reply : Reply) (new : State) → Does old event reply new → Counted old event reply new
does-counts old (Serve request) (Served server how) new d =
    inr (record { none_ends = refl; open_ones = same-open old new (serves-open old request server how new d.1) })
does-counts old (Serve request) (Refused NoSuchServer) new d = unchanged old (Serve request) (Refused NoSuchServer) new refl d.1
does-counts old (Serve request) (Refused NoServer) new d = unchanged old (Serve request) (Refused NoServer) new refl d.2
does-counts old (Set set) (Pinned how) new d =
    inr (record { none_ends = refl; open_ones = same-open old new (sets-open old set how new d.2) })
does-counts old (Set set) NoTable new d = unchanged old (Set set) NoTable new refl d.2
does-counts old (Set set) (Refused NoSuchServer) new d = unchanged old (Set set) (Refused NoSuchServer) new refl d.1
does-counts old (Set set) (Refused TableFull) new d = unchanged old (Set set) (Refused TableFull) new refl d.3
does-counts old (Clear name) Cleared new d = inr (record { none_ends = refl; open_ones = same-open old new (ap open_in d.new_is) })
does-counts old (Clear name) NoPin new d = unchanged old (Clear name) NoPin new refl d.1
does-counts old (Open server) Opened new d = inr (opened old server d.found new d.is d.new_is)
does-counts old (Open server) (Refused NotServing) new d = unchanged old (Open server) (Refused NotServing) new refl d.1
does-counts old (Open server) (Refused Full) new d = unchanged old (Open server) (Refused Full) new refl d.2
does-counts old (Close server) Closed new d =
    let some = d.some in
    inl (ended old server (d.found.connections - 1) d.found new d.is (omega arith) d.new_is)
does-counts old (Close server) (Refused NotOpen) new d = unchanged old (Close server) (Refused NotOpen) new (none-at old server d.0) d.1
does-counts old (Expire now) (Expired count) new d = inr (record { none_ends = refl; open_ones = same-open old new (ap open_in d.1) })
does-counts old (Check server ok) (Checked (Took flip)) new d =
    inr (record { none_ends = refl; open_ones = same-open old new (same-counts old new server d.found _ d.is refl d.new_is) })
does-counts old (Check server ok) (Checked Ignored) new d = unchanged old (Check server ok) (Checked Ignored) new refl d.1
does-counts old (Check server ok) (Refused refusal) new d = unchanged old (Check server ok) (Refused refusal) new refl d.1
does-counts old (Command change) Done new d =
    inr (record {
      none_ends = refl;
      open_ones = same-open old new (same-counts old new change.server d.found (with_setting d.found change.setting) d.is (setting-count d.found change.setting) d.new_is);
    })
does-counts old (Command change) (Refused refusal) new d = unchanged old (Command change) (Refused refusal) new refl d.1
does-counts old Snapshot (Sheet sheet) new d = unchanged old Snapshot (Sheet sheet) new refl d.1
does-counts old (Install plan) (Refused Stale) new d = unchanged old (Install plan) (Refused Stale) new refl d.1
does-counts old (Install plan) (Refused (Bad fault)) new d = unchanged old (Install plan) (Refused (Bad fault)) new refl d.2
does-counts old (Install plan) (Installed score) new d = inr (record { none_ends = refl; open_ones = same-open old new (ap open_in d.1.new_is) })
does-counts old event reply new d = absurd d

-- ---- one step

-- a step that ends a connection leaves the version, any other counts it once at most
abbrev CountedStep : State → Event → Reply → State → Type 0
CountedStep old event reply new =
    ((open_in new + 1 ≡ open_in old) × (new.version ≡ old.version) × (is_use reply ≡ false))
    ⊎ ((ends_one (seen old) event ≡ false) × (open_in new ≤ open_in old + 1) × (new.version ≤ old.version + 1))

same-view_of : (old acted : State) → view_of acted ≡ view_of old → SameView (view_of old) (view_of acted)
same-view_of old acted e = rw e (same_view-refl (view_of old))

abbrev version_of : State → ℕ
version_of s = s.version

step-counts : (old : State) (event : Event) (reply : Reply) (new : State) → Step old event reply new → CountedStep old event reply new
step-counts old event reply new step =
    let kept = does-version old event reply step.acted step.does in
    elim (does-counts old event reply step.acted step.does) [
      | inl e ↦ elim step.counts [
        | inl same ↦
            let is : open_in new ≡ open_in step.acted = ap open_in same.1 in
            let ones = e.open_ones in
            inl (omega arith, ap version_of same.1 ∙ kept, e.no_use)
        | inr more ↦ absurd (more.0 (same-view_of old step.acted e.view))
      ]
      | inr w ↦ elim step.counts [
        | inl same ↦
            let is : open_in new ≡ open_in step.acted = ap open_in same.1 in
            let version : new.version ≡ step.acted.version = ap version_of same.1 in
            let ones = w.open_ones in
            inr (w.none_ends, omega arith, omega arith)
        | inr more ↦
            let is : open_in new ≡ open_in step.acted = ap open_in more.1 in
            let version : new.version ≡ old.version + 1 = ap version_of more.1 in
            let ones = w.open_ones in
            inr (w.none_ends, omega arith, omega arith)
      ]
    ]

-- where the event ends no connection, a desk that isn't worn has room for an entry
below : (shown : Seen) (entries : ℕ) (event : Event) → is_worn shown entries event ≡ false → ends_one shown event ≡ false
    → entries + open_connections shown < 2 ^ 63
below shown entries event fresh none = leb-false (2 ^ 63) (entries + open_connections shown) (go (leb (2 ^ 63) (entries + open_connections shown)) (ends_one shown event) none fresh)
  where
    go : (a b : Bool) → b ≡ false → (a && not b) ≡ false → a ≡ false
    go true b none e = absurd (false≢true (sym e ∙ ap not none))
    go false b none e = refl

pub steps_fit : StepsFit
steps_fit old event reply new entries step fresh fits =
    let few = fits.few in
    let version = fits.version in
    let room = fits.room in
    elim (step-counts old event reply new step) [
      | inl e ↦ record { few = omega (arith, e.1); version = omega (arith, e.1); room = omega (arith, e.0) }
      | inr w ↦
          let under : entries + open_in old < 2 ^ 63 = below (seen old) entries event fresh w.0 in
          record { few = omega (arith, w.2); version = omega (arith, w.2); room = omega (arith, w.1) }
    ]

-- ---- histories

same-fits : (n m : ℕ) (old new : State) → m ≡ n → new ≡ old → Fits n (seen old) → Fits m (seen new)
same-fits n m old new many is fits = rw (many, is) fits

fits-after : (n m : ℕ) (old : State) (entries : List Entry) (new : State) → m ≡ n + length entries → (history : History old entries new)
    → NoneIsWorn n old entries new history → Fits n (seen old) → Fits m (seen new)
fits-after n m old [] new many history fresh fits = same-fits n m old new (omega arith) history fits
fits-after n m old (entry ∷ entries) new many history fresh fits =
    fits-after (n + 1) m history.0 entries new (omega arith) history.2 fresh.1
    (steps_fit old entry.event entry.reply history.0 n history.1 fresh.0 fits)

pub histories_fit : HistoriesFit
histories_fit backend entries state history fresh =
    let none : open_in (opening backend) ≡ 0 = none-open backend.servers in
    fits-after 0 (length entries) (opening backend) entries state (omega arith) history fresh
    (record { few = omega arith; version = omega arith; room = omega arith })

few-after : (old : State) (entries : List Entry) (new : State) → History old entries new
    → (new.version ≤ old.version + length entries) × (open_in new ≤ open_in old + length entries)
few-after old [] new history =
    let version : new.version ≡ old.version = ap version_of history in
    let ones : open_in new ≡ open_in old = ap open_in history in
    (omega arith, omega arith)
few-after old (entry ∷ entries) new history =
    let rest = few-after history.0 entries new history.2 in
    elim (step-counts old entry.event entry.reply history.0 history.1) [
      | inl e ↦ (omega (arith, rest.0, e.1), omega (arith, rest.1, e.0))
      | inr w ↦ (omega (arith, rest.0, w.2), omega (arith, rest.1, w.1))
    ]

pub counts_are_few : CountsAreFew
counts_are_few backend entries state history =
    let none : open_in (opening backend) ≡ 0 = none-open backend.servers in
    let few = few-after (opening backend) entries state history in
    record {
      versions = omega (arith, few.0);
      uses = count_by-le-length (λ (e : Entry). is_use e.reply) entries;
      connections = omega (arith, few.1);
    }

-- ---- worn exactly

ends-one : (shown : Seen) (event : Event) → ends_one shown event ≡ true → EndsOne shown event
ends-one shown (Close server) e = (server, refl, leb-true 1 (open_at shown server) e)
ends-one shown event e = absurd (false≢true e)

one-ends : (shown : Seen) (event : Event) → EndsOne shown event → ends_one shown event ≡ false → ⊥
one-ends shown event one none =
    let is : ends_one shown (Close one.0) ≡ false = ap (ends_one shown) (sym one.1) ∙ none in
    let less = leb-false 1 (open_at shown one.0) is in
    let some = one.2 in
    omega arith

pub worn_is_exact : WornIsExact
worn_is_exact shown entries event =
    go (leb (2 ^ 63) (entries + open_connections shown)) (ends_one shown event) refl refl
  where
    go : (a b : Bool) → leb (2 ^ 63) (entries + open_connections shown) ≡ a → ends_one shown event ≡ b
        → ((a && not b) ≡ true) ↔ ((2 ^ 63 ≤ entries + open_connections shown) × (EndsOne shown event → ⊥))
    go true false many none = (λ e. (leb-true (2 ^ 63) (entries + open_connections shown) many, λ one. one-ends shown event one none), λ known. refl)
    go true true many ends = (λ e. absurd (false≢true e), λ known. absurd (known.1 (ends-one shown event ends)))
    go false b less ends = (
      λ e. absurd (false≢true e),
      λ known.
          let under = leb-false (2 ^ 63) (entries + open_connections shown) less in
          let many = known.0 in
          absurd (omega arith),
    )
