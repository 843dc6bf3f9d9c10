-- Last uses never fall along the table, and none is behind the latest moment.
use Rattle.std.proofs.Common.{◌≡◌, ◌≤◌, ℕ, Bool, true, false, not, Option, List, [], ◌∷◌, ◌++◌, map, drop, filter, refl, if◌then◌else◌, inl, inr, arith}
use Rattle.std.specs.Prelude.{All, AllPairs}
use Rattle.std.specs.List.{zip}
use Rattle.std.proofs.Math.Nat.{le-max_left}
use Rattle.std.proofs.lemmas.List.Elements.{All-cons, All-nil}
use Rattle.std.proofs.lemmas.List.Kept.{AllPairs-cons}
use Rattle.lb_types_pins.proofs.Pairs.{AllPairs-nil}
use Rattle.server_state.specs.declared.checked.Checked.TheVariants.{Took, Ignored}
use Rattle.lb_desk_model.specs.declared.entry.Entry.{Entry}
use Rattle.lb_desk_model.specs.declared.event.Event.{Event}
use Rattle.lb_desk_model.specs.declared.event.Event.TheVariants.{Serve, Set, Clear, Open, Close, Expire, Check, Command, Snapshot, Install}
use Rattle.lb_desk_model.specs.declared.event.Request.{Request}
use Rattle.lb_desk_model.specs.declared.event.SetPin.{SetPin}
use Rattle.lb_desk_model.specs.declared.reply.Refusal.TheVariants.{NoSuchServer, Full, NotServing, NotOpen, TableFull, Stale, Bad, NoServer}
use Rattle.lb_desk_model.specs.declared.reply.Reply.{Reply}
use Rattle.lb_desk_model.specs.declared.reply.Reply.TheVariants.{Served, Pinned, NoTable, Cleared, NoPin, Opened, Closed, Expired, Checked, Done, Sheet, Installed, Refused}
use Rattle.lb_desk_model.specs.declared.reply.PinnedAs.{PinnedAs}
use Rattle.lb_desk_model.specs.declared.reply.PinnedAs.TheVariants as Put
use Rattle.lb_desk_model.specs.declared.reply.ServedAs.{ServedAs}
use Rattle.lb_desk_model.specs.declared.reply.ServedAs.TheVariants.{Kept, Moved, Made, Loose}
use Rattle.pin_set.specs.declared.table_pin.TablePin.{TablePin}
use Rattle.lb_desk_model.specs.Histories.{History}
use Rattle.lb_desk_model.specs.Installs.{moved_to}
use Rattle.lb_desk_model.specs.Serves.{Serves, is_full, staying, moment_of, new_pin, used_at}
use Rattle.lb_desk_model.specs.Sets.{Sets, set_pin}
use Rattle.lb_desk_model.specs.States.{State, opening}
use Rattle.lb_desk_model.specs.Steps.{Does, Step, has_expired}
use Rattle.lb_desk_seen.specs.Uses.{PinsAreInOrderOfUse}

-- the last uses rise from the one number to the other
abbrev Rises : ℕ → List TablePin → ℕ → Type 0
Rises low [] high = low ≤ high
Rises low (p ∷ ps) high = (low ≤ p.last_use) × Rises p.last_use ps high

-- ---- lists

within : (low : ℕ) (ps : List TablePin) (high : ℕ) → Rises low ps high → low ≤ high
within low [] high r = r
within low (p ∷ ps) high r = let rest : p.last_use ≤ high = within p.last_use ps high r.1 in omega (arith, r.0)

from_lower : (lower low : ℕ) (ps : List TablePin) (high : ℕ) → lower ≤ low → Rises low ps high → Rises lower ps high
from_lower lower low [] high below r = omega (arith, r)
from_lower lower low (p ∷ ps) high below r = (omega (arith, r.0), r.1)

to_higher : (low : ℕ) (ps : List TablePin) (high higher : ℕ) → high ≤ higher → Rises low ps high → Rises low ps higher
to_higher low [] high higher above r = omega (arith, r)
to_higher low (p ∷ ps) high higher above r = (r.0, to_higher p.last_use ps high higher above r.1)

pushed : (low : ℕ) (ps : List TablePin) (p : TablePin) (high now : ℕ) → p.last_use ≡ now → high ≤ now → Rises low ps high → Rises low (ps ++ p ∷ []) now
pushed low [] p high now is above r = (omega (arith, r), omega arith)
pushed low (q ∷ qs) p high now is above r = (r.0, pushed q.last_use qs p high now is above r.1)

-- the found pin is taken out, and one is put last
put_last : (low : ℕ) (before : List TablePin) (found : TablePin) (after : List TablePin) (p : TablePin) (high now : ℕ)
    → p.last_use ≡ now → high ≤ now → Rises low (before ++ found ∷ after) high → Rises low (before ++ after ++ p ∷ []) now
put_last low [] found after p high now is above r =
    from_lower low found.last_use (after ++ p ∷ []) now r.0 (pushed found.last_use after p high now is above r.1)
put_last low (b ∷ before) found after p high now is above r = (r.0, put_last b.last_use before found after p high now is above r.1)

-- the found pin is taken out
taken_out : (low : ℕ) (before : List TablePin) (found : TablePin) (after : List TablePin) (high : ℕ)
    → Rises low (before ++ found ∷ after) high → Rises low (before ++ after) high
taken_out low [] found after high r = from_lower low found.last_use after high r.0 r.1
taken_out low (b ∷ before) found after high r = (r.0, taken_out b.last_use before found after high r.1)

without_first : (low : ℕ) (ps : List TablePin) (high : ℕ) → Rises low ps high → Rises low (drop 1 ps) high
without_first low [] high r = r
without_first low (p ∷ ps) high r = from_lower low p.last_use ps high r.0 r.1

staying_rise : (test : Bool) (low : ℕ) (ps : List TablePin) (high : ℕ) → Rises low ps high → Rises low (if test then drop 1 ps else ps) high
staying_rise true low ps high r = without_first low ps high r
staying_rise false low ps high r = r

rises_behind : (test : Bool) (low : ℕ) (p : TablePin) (ps : List TablePin) (high : ℕ) → low ≤ p.last_use → Rises p.last_use ps high
    → Rises low (if test then p ∷ ps else ps) high
rises_behind true low p ps high here rest = (here, rest)
rises_behind false low p ps high here rest = from_lower low p.last_use ps high here rest

kept_or_not : (keep : TablePin → Bool) (low : ℕ) (ps : List TablePin) (high : ℕ) → Rises low ps high → Rises low (filter keep ps) high
kept_or_not keep low [] high r = r
kept_or_not keep low (p ∷ ps) high r =
    let rest = kept_or_not keep p.last_use ps high r.1 in
    rises_behind (keep p) low p (filter keep ps) high r.0 rest

at_places : (low : ℕ) (ps : List TablePin) (places : List (Option ℕ)) (high : ℕ) → Rises low ps high
    → Rises low (map (λ m. moved_to m.0 m.1) (zip ps places)) high
at_places low [] places high r = r
at_places low (p ∷ ps) [] high r = within low (p ∷ ps) high r
at_places low (p ∷ ps) (place ∷ places) high r = (r.0, at_places p.last_use ps places high r.1)

-- ---- steps

abbrev InOrder : State → Type 0
InOrder state = Rises 0 state.pins state.latest

moment_after : (old : State) (now : ℕ) → old.latest ≤ moment_of old now
moment_after old now = le-max_left old.latest now

serves-rise : (old : State) (request : Request) (server : ℕ) (how : ServedAs) (new : State) → Serves old request server how new → InOrder old → InOrder new
serves-rise old request server Kept new s r =
    let now = moment_of old request.moment in
    let parted : Rises 0 (s.0 ++ s.1 ∷ s.2) old.latest = rw (← s.3.stands.is) r in
    rw s.4 (put_last 0 s.0 s.1 s.2 (used_at s.1 server now) old.latest now refl (moment_after old request.moment) parted)
serves-rise old request server Moved new s r =
    let now = moment_of old request.moment in
    let parted : Rises 0 (s.0 ++ s.1 ∷ s.2) old.latest = rw (← s.4.stands.is) r in
    rw s.6 (put_last 0 s.0 s.1 s.2 (used_at s.1 server now) old.latest now refl (moment_after old request.moment) parted)
serves-rise old request server Made new s r =
    let now = moment_of old request.moment in
    rw s.4 (pushed 0 (staying old) (new_pin s.0 request server now) old.latest now refl (moment_after old request.moment)
    (staying_rise (is_full old) 0 old.pins old.latest r))
serves-rise old request server Loose new s r =
    rw s.3 (to_higher 0 old.pins old.latest (moment_of old request.moment) (moment_after old request.moment) r)

sets-rise : (old : State) (set : SetPin) (how : PinnedAs) (new : State) → Sets old set how new → InOrder old → InOrder new
sets-rise old set Put.Kept new s r =
    let now = moment_of old set.moment in
    let parted : Rises 0 (s.0 ++ s.1 ∷ s.2) old.latest = rw (← s.3.is) r in
    rw s.5 (put_last 0 s.0 s.1 s.2 (used_at s.1 set.server now) old.latest now refl (moment_after old set.moment) parted)
sets-rise old set Put.Moved new s r =
    let now = moment_of old set.moment in
    let parted : Rises 0 (s.0 ++ s.1 ∷ s.2) old.latest = rw (← s.3.is) r in
    rw s.5 (put_last 0 s.0 s.1 s.2 (used_at s.1 set.server now) old.latest now refl (moment_after old set.moment) parted)
sets-rise old set Put.Made new s r =
    let now = moment_of old set.moment in
    rw s.2 (pushed 0 (staying old) (set_pin set now) old.latest now refl (moment_after old set.moment)
    (staying_rise (is_full old) 0 old.pins old.latest r))

does-rise : (old : State) (event : Event) (reply : Reply) (new : State) → Does old event reply new → InOrder old → InOrder new
does-rise old (Serve request) (Served server how) new d r = serves-rise old request server how new d.1 r
does-rise old (Serve request) (Refused NoSuchServer) new d r = rw d.1 r
does-rise old (Serve request) (Refused NoServer) new d r = rw d.2 r
does-rise old (Set set) (Pinned how) new d r = sets-rise old set how new d.2 r
does-rise old (Set set) NoTable new d r = rw d.2 r
does-rise old (Set set) (Refused NoSuchServer) new d r = rw d.1 r
does-rise old (Set set) (Refused TableFull) new d r = rw d.3 r
does-rise old (Clear name) Cleared new d r =
    let parted : Rises 0 (d.before ++ d.found ∷ d.after) old.latest = rw (← d.stands.is) r in
    rw d.new_is (taken_out 0 d.before d.found d.after old.latest parted)
does-rise old (Clear name) NoPin new d r = rw d.1 r
does-rise old (Open server) Opened new d r = rw d.new_is r
does-rise old (Open server) (Refused NotServing) new d r = rw d.1 r
does-rise old (Open server) (Refused Full) new d r = rw d.2 r
does-rise old (Close server) Closed new d r = rw d.new_is r
does-rise old (Close server) (Refused NotOpen) new d r = rw d.1 r
does-rise old (Expire now) (Expired count) new d r =
    rw d.1 (kept_or_not (λ p. not (has_expired old (moment_of old now) p)) 0 old.pins old.latest r)
does-rise old (Check server ok) (Checked (Took flip)) new d r = rw d.new_is r
does-rise old (Check server ok) (Checked Ignored) new d r = rw d.1 r
does-rise old (Check server ok) (Refused refusal) new d r = rw d.1 r
does-rise old (Command change) Done new d r = rw d.new_is r
does-rise old (Command change) (Refused refusal) new d r = rw d.1 r
does-rise old Snapshot (Sheet sheet) new d r = rw d.1 r
does-rise old (Install plan) (Refused Stale) new d r = rw d.1 r
does-rise old (Install plan) (Refused (Bad fault)) new d r = rw d.2 r
does-rise old (Install plan) (Installed score) new d r = rw d.1.new_is (at_places 0 old.pins d.1.places old.latest r)
does-rise old event reply new d r = absurd d

step-rise : (old : State) (event : Event) (reply : Reply) (new : State) → Step old event reply new → InOrder old → InOrder new
step-rise old event reply new step r =
    let acted : InOrder step.acted = does-rise old event reply step.acted step.does r in
    elim step.counts [ inl same ↦ rw same.1 acted | inr more ↦ rw more.1 acted ]

history-rise : (old : State) (entries : List Entry) (new : State) → History old entries new → InOrder old → InOrder new
history-rise old [] new history r = rw history r
history-rise old (entry ∷ entries) new history r =
    history-rise history.0 entries new history.2 (step-rise old entry.event entry.reply history.0 history.1 r)

-- ---- the same by places in the list

all_above : (low : ℕ) (ps : List TablePin) (high : ℕ) → Rises low ps high → All (λ p. low ≤ p.last_use) ps
all_above low [] high r = All-nil (λ p. low ≤ p.last_use)
all_above low (p ∷ ps) high r = All-cons (λ p. low ≤ p.last_use) p ps r.0 (all_above low ps high (from_lower low p.last_use ps high r.0 r.1))

abbrev NotBehind : TablePin → TablePin → Type 0
NotBehind a b = a.last_use ≤ b.last_use

rising : (low : ℕ) (ps : List TablePin) (high : ℕ) → Rises low ps high → AllPairs NotBehind ps
rising low [] high r = AllPairs-nil NotBehind
rising low (p ∷ ps) high r = AllPairs-cons NotBehind p ps (all_above p.last_use ps high r.1) (rising p.last_use ps high r.1)

bounded : (low : ℕ) (ps : List TablePin) (high : ℕ) → Rises low ps high → All (λ p. p.last_use ≤ high) ps
bounded low [] high r = All-nil (λ p. p.last_use ≤ high)
bounded low (p ∷ ps) high r = All-cons (λ p. p.last_use ≤ high) p ps (within p.last_use ps high r.1) (bounded p.last_use ps high r.1)

pub pins_are_in_order_of_use : PinsAreInOrderOfUse
pins_are_in_order_of_use backend entries state history =
    let start : InOrder (opening backend) = omega arith in
    let r : InOrder state = history-rise (opening backend) entries state history start in
    record { rising = rising 0 state.pins state.latest r; bounded = bounded 0 state.pins state.latest r }
