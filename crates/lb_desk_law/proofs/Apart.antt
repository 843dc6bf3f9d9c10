-- In every history each pin's name stands once in the table.
use Rattle.std.proofs.Common.{◌≡◌, ◌≢◌, ℕ, Bool, true, false, cond, Option, List, [], ◌∷◌, ◌++◌, map, drop, refl, sym, ap, ◌∙◌, inl, inr, append_assoc, arith}
use Rattle.std.specs.Prelude.{filter, All, AllPairs}
use Rattle.std.specs.List.{zip}
use Rattle.std.proofs.lemmas.List.Elements.{All-head, All-tail, All-cons, All-nil}
use Rattle.std.proofs.lemmas.List.Kept.{AllPairs-cons}
use Rattle.pin_set.specs.declared.pin.PinId.{PinId}
use Rattle.server_state.specs.declared.checked.Checked.TheVariants.{Took, Ignored}
use Rattle.lb_desk_model.specs.declared.entry.Entry.{Entry}
use Rattle.lb_desk_model.specs.declared.event.Event.{Event}
use Rattle.lb_desk_model.specs.declared.event.Event.TheVariants.{Serve, Set, Clear, Open, Close, Expire, Check, Command, Snapshot, Install}
use Rattle.lb_desk_model.specs.declared.event.Request.{Request}
use Rattle.lb_desk_model.specs.declared.event.SetPin.{SetPin}
use Rattle.lb_desk_model.specs.declared.reply.Refusal.TheVariants.{NoSuchServer, Full, NotServing, NotOpen, TableFull, Stale, Bad, NoServer}
use Rattle.lb_desk_model.specs.declared.reply.Reply.{Reply}
use Rattle.lb_desk_model.specs.declared.reply.Reply.TheVariants.{Served, Pinned, NoTable, Cleared, NoPin, Opened, Closed, Expired, Checked, Done, Sheet, Installed, Refused}
use Rattle.lb_desk_model.specs.declared.reply.PinnedAs.{PinnedAs}
use Rattle.lb_desk_model.specs.declared.reply.PinnedAs.TheVariants as Put
use Rattle.lb_desk_model.specs.declared.reply.ServedAs.{ServedAs}
use Rattle.lb_desk_model.specs.declared.reply.ServedAs.TheVariants.{Kept, Moved, Made, Loose}
use Rattle.pin_set.specs.declared.table_pin.TablePin.{TablePin}
use Rattle.lb_desk_model.specs.Histories.{History}
use Rattle.lb_desk_model.specs.Installs.{moved_to}
use Rattle.lb_desk_model.specs.Serves.{Serves, IsNew, is_full, staying}
use Rattle.lb_desk_model.specs.Sets.{Sets}
use Rattle.lb_desk_model.specs.States.{State}
use Rattle.lb_desk_model.specs.Steps.{Does, Step}

-- the pins have two names
abbrev pub Differ : TablePin → TablePin → Type 0
Differ p q = p.pin.id ≢ q.pin.id

abbrev pub DifferFrom : TablePin → List TablePin → Type 0
DifferFrom p [] = Unit {0}
DifferFrom p (q ∷ qs) = Differ p q × DifferFrom p qs

-- each two pins have two names
abbrev pub Apart : List TablePin → Type 0
Apart [] = Unit {0}
Apart (p ∷ ps) = DifferFrom p ps × Apart ps

-- each pin of the one list has another name than each of the other
abbrev pub Across : List TablePin → List TablePin → Type 0
Across [] qs = Unit {0}
Across (p ∷ ps) qs = DifferFrom p qs × Across ps qs

differ-append : (p : TablePin) (xs ys : List TablePin) → DifferFrom p (xs ++ ys) → DifferFrom p xs × DifferFrom p ys
differ-append p [] ys d = (tt, d)
differ-append p (x ∷ xs) ys d = let rest = differ-append p xs ys d.1 in ((d.0, rest.0), rest.1)

differ-both : (p : TablePin) (xs ys : List TablePin) → DifferFrom p xs → DifferFrom p ys → DifferFrom p (xs ++ ys)
differ-both p [] ys d e = e
differ-both p (x ∷ xs) ys d e = (d.0, differ-both p xs ys d.1 e)

pub apart-cut : (xs ys : List TablePin) → Apart (xs ++ ys) → Apart xs × Apart ys × Across xs ys
apart-cut [] ys a = (tt, a, tt)
apart-cut (x ∷ xs) ys a =
    let rest = apart-cut xs ys a.1 in
    let here = differ-append x xs ys a.0 in
    ((here.0, rest.0), rest.1, (here.1, rest.2))

apart-joined : (xs ys : List TablePin) → Apart xs → Apart ys → Across xs ys → Apart (xs ++ ys)
apart-joined [] ys a b c = b
apart-joined (x ∷ xs) ys a b c = (differ-both x xs ys a.0 c.0, apart-joined xs ys a.1 b c.1)

across-both : (xs ys zs : List TablePin) → Across xs ys → Across xs zs → Across xs (ys ++ zs)
across-both [] ys zs c d = tt
across-both (x ∷ xs) ys zs c d = (differ-both x ys zs c.0 d.0, across-both xs ys zs c.1 d.1)

across-last : (xs : List TablePin) (q : TablePin) (qs : List TablePin) → Across xs (q ∷ qs) → Across xs qs
across-last [] q qs c = tt
across-last (x ∷ xs) q qs c = (c.0.1, across-last xs q qs c.1)

across-first : (xs : List TablePin) (q r : TablePin) (qs : List TablePin) → q.pin.id ≡ r.pin.id → Across xs (q ∷ qs) → Across xs (r ∷ [])
across-first [] q r qs e c = tt
across-first (x ∷ xs) q r qs e c = ((λ (same : x.pin.id ≡ r.pin.id). c.0.0 (same ∙ sym e), tt), across-first xs q r qs e c.1)

-- a pin that differs from others, and these from it
across-one : (xs : List TablePin) (q r : TablePin) → q.pin.id ≡ r.pin.id → DifferFrom q xs → Across xs (r ∷ [])
across-one [] q r e d = tt
across-one (x ∷ xs) q r e d = ((λ (same : x.pin.id ≡ r.pin.id). d.0 (e ∙ sym same), tt), across-one xs q r e d.1)

-- a pin is put last under its name
apart-to_end : (before : List TablePin) (found : TablePin) (after : List TablePin) (used : TablePin) → found.pin.id ≡ used.pin.id
    → Apart (before ++ found ∷ after) → Apart (before ++ after ++ used ∷ [])
apart-to_end before found after used e a =
    let parts = apart-cut before (found ∷ after) a in
    let behind : Apart (after ++ used ∷ []) = apart-joined after (used ∷ []) parts.1.1 (tt, tt) (across-one after found used e parts.1.0) in
    rw append_assoc (apart-joined before (after ++ used ∷ []) parts.0 behind
    (across-both before after (used ∷ []) (across-last before found after parts.2) (across-first before found used after e parts.2)))

-- a pin is taken out
apart-without : (before : List TablePin) (found : TablePin) (after : List TablePin) → Apart (before ++ found ∷ after) → Apart (before ++ after)
apart-without before found after a =
    let parts = apart-cut before (found ∷ after) a in
    apart-joined before after parts.0 parts.1.1 (across-last before found after parts.2)

-- a pin of a new name is put last
across-new : (name : PinId) (xs : List TablePin) (q : TablePin) → q.pin.id ≡ name → IsNew name xs → Across xs (q ∷ [])
across-new name [] q e unknown = tt
across-new name (x ∷ xs) q e unknown =
    let here : x.pin.id ≢ name = All-head (λ (p : TablePin). p.pin.id ≢ name) x xs unknown in
    ((λ (same : x.pin.id ≡ q.pin.id). here (same ∙ e), tt), across-new name xs q e (All-tail (λ (p : TablePin). p.pin.id ≢ name) x xs unknown))

apart-drop : (xs : List TablePin) → Apart xs → Apart (drop 1 xs)
apart-drop [] a = tt
apart-drop (x ∷ xs) a = a.1

across-drop : (xs ys : List TablePin) → Across xs ys → Across (drop 1 xs) ys
across-drop [] ys c = tt
across-drop (x ∷ xs) ys c = c.1

apart-staying : (b : Bool) (xs : List TablePin) → Apart xs → Apart (cond b (drop 1 xs) xs)
apart-staying true xs a = apart-drop xs a
apart-staying false xs a = a

across-staying : (b : Bool) (xs ys : List TablePin) → Across xs ys → Across (cond b (drop 1 xs) xs) ys
across-staying true xs ys c = across-drop xs ys c
across-staying false xs ys c = c

differ-filter : (keep : TablePin → Bool) (p : TablePin) (xs : List TablePin) → DifferFrom p xs → DifferFrom p (filter keep xs)
differ-filter keep p [] d = tt
differ-filter keep p (x ∷ xs) d =
    elim (keep x) as (λ b. DifferFrom p (cond b (x ∷ filter keep xs) (filter keep xs))) [
      | true ↦ (d.0, differ-filter keep p xs d.1)
      | false ↦ differ-filter keep p xs d.1
    ]

apart-filter : (keep : TablePin → Bool) (xs : List TablePin) → Apart xs → Apart (filter keep xs)
apart-filter keep [] a = tt
apart-filter keep (x ∷ xs) a =
    elim (keep x) as (λ b. Apart (cond b (x ∷ filter keep xs) (filter keep xs))) [
      | true ↦ (differ-filter keep x xs a.0, apart-filter keep xs a.1)
      | false ↦ apart-filter keep xs a.1
    ]

abbrev pub all_moved : List TablePin → List (Option ℕ) → List TablePin
all_moved pins places = map (λ m. moved_to m.0 m.1) (zip pins places)

differ-moved : (p : TablePin) (to : Option ℕ) (xs : List TablePin) (places : List (Option ℕ)) → DifferFrom p xs → DifferFrom (moved_to p to) (all_moved xs places)
differ-moved p to [] places d = tt
differ-moved p to (x ∷ xs) [] d = tt
differ-moved p to (x ∷ xs) (place ∷ places) d = (d.0, differ-moved p to xs places d.1)

pub apart-moved : (xs : List TablePin) (places : List (Option ℕ)) → Apart xs → Apart (all_moved xs places)
apart-moved [] places a = tt
apart-moved (x ∷ xs) [] a = tt
apart-moved (x ∷ xs) (place ∷ places) a = (differ-moved x place xs places a.0, apart-moved xs places a.1)

-- ---- along a history

abbrev pins_of : State → List TablePin
pins_of s = s.pins

-- a state with these pins has pins apart
apart-is : (state : State) (pins : List TablePin) → state.pins ≡ pins → Apart pins → Apart state.pins
apart-is state pins e a = rw e a

serves-apart : (old : State) (request : Request) (server : ℕ) (how : ServedAs) (new : State) → Apart old.pins → Serves old request server how new → Apart new.pins
serves-apart old request server Kept new a s =
    let stood : Apart (s.0 ++ s.1 ∷ s.2) = rw s.3.stands.is at a in
    apart-is new _ (ap pins_of s.4) (apart-to_end s.0 s.1 s.2 _ refl stood)
serves-apart old request server Moved new a s =
    let stood : Apart (s.0 ++ s.1 ∷ s.2) = rw s.4.stands.is at a in
    apart-is new _ (ap pins_of s.6) (apart-to_end s.0 s.1 s.2 _ refl stood)
serves-apart old request server Made new a s =
    apart-is new _ (ap pins_of s.4) (apart-joined (staying old) _ (apart-staying (is_full old) old.pins a) (tt, tt) (across-staying (is_full old) old.pins _ (across-new s.0 old.pins _ refl s.2.unknown)))
serves-apart old request server Loose new a s = apart-is new old.pins (ap pins_of s.3) a

sets-apart : (old : State) (set : SetPin) (how : PinnedAs) (new : State) → Apart old.pins → Sets old set how new → Apart new.pins
sets-apart old set Put.Kept new a s =
    let stood : Apart (s.0 ++ s.1 ∷ s.2) = rw s.3.is at a in
    apart-is new _ (ap pins_of s.5) (apart-to_end s.0 s.1 s.2 _ refl stood)
sets-apart old set Put.Moved new a s =
    let stood : Apart (s.0 ++ s.1 ∷ s.2) = rw s.3.is at a in
    apart-is new _ (ap pins_of s.5) (apart-to_end s.0 s.1 s.2 _ refl stood)
sets-apart old set Put.Made new a s =
    apart-is new _ (ap pins_of s.2) (apart-joined (staying old) _ (apart-staying (is_full old) old.pins a) (tt, tt) (across-staying (is_full old) old.pins _ (across-new set.name old.pins _ refl s.0)))

pub does-apart : (old : State) (event : Event) (reply : Reply) (new : State) → Apart old.pins → Does old event reply new → Apart new.pins
does-apart old (Serve request) (Served server how) new a d = serves-apart old request server how new a d.1
does-apart old (Serve request) (Refused NoSuchServer) new a d = apart-is new old.pins (ap pins_of d.1) a
does-apart old (Serve request) (Refused NoServer) new a d = apart-is new old.pins (ap pins_of d.2) a
does-apart old (Set set) (Pinned how) new a d = sets-apart old set how new a d.2
does-apart old (Set set) NoTable new a d = apart-is new old.pins (ap pins_of d.2) a
does-apart old (Set set) (Refused NoSuchServer) new a d = apart-is new old.pins (ap pins_of d.1) a
does-apart old (Set set) (Refused TableFull) new a d = apart-is new old.pins (ap pins_of d.3) a
does-apart old (Clear name) Cleared new a d =
    let stood : Apart (d.before ++ d.found ∷ d.after) = rw d.stands.is at a in
    apart-is new _ (ap pins_of d.new_is) (apart-without d.before d.found d.after stood)
does-apart old (Clear name) NoPin new a d = apart-is new old.pins (ap pins_of d.1) a
does-apart old (Open server) Opened new a d = apart-is new old.pins (ap pins_of d.new_is) a
does-apart old (Open server) (Refused NotServing) new a d = apart-is new old.pins (ap pins_of d.1) a
does-apart old (Open server) (Refused Full) new a d = apart-is new old.pins (ap pins_of d.2) a
does-apart old (Close server) Closed new a d = apart-is new old.pins (ap pins_of d.new_is) a
does-apart old (Close server) (Refused NotOpen) new a d = apart-is new old.pins (ap pins_of d.1) a
does-apart old (Expire now) (Expired count) new a d = apart-is new _ (ap pins_of d.1) (apart-filter _ old.pins a)
does-apart old (Check server ok) (Checked (Took flip)) new a d = apart-is new old.pins (ap pins_of d.new_is) a
does-apart old (Check server ok) (Checked Ignored) new a d = apart-is new old.pins (ap pins_of d.1) a
does-apart old (Check server ok) (Refused refusal) new a d = apart-is new old.pins (ap pins_of d.1) a
does-apart old (Command change) Done new a d = apart-is new old.pins (ap pins_of d.new_is) a
does-apart old (Command change) (Refused refusal) new a d = apart-is new old.pins (ap pins_of d.1) a
does-apart old Snapshot (Sheet sheet) new a d = apart-is new old.pins (ap pins_of d.1) a
does-apart old (Install plan) (Refused Stale) new a d = apart-is new old.pins (ap pins_of d.1) a
does-apart old (Install plan) (Refused (Bad fault)) new a d = apart-is new old.pins (ap pins_of d.2) a
does-apart old (Install plan) (Installed score) new a d = apart-is new _ (ap pins_of d.1.new_is) (apart-moved old.pins d.1.places a)
does-apart old event reply new a d = absurd d

pub step-apart : (old : State) (event : Event) (reply : Reply) (new : State) → Apart old.pins → Step old event reply new → Apart new.pins
step-apart old event reply new a step =
    let acted = does-apart old event reply step.acted a step.does in
    elim step.counts [
      | inl same ↦ apart-is new step.acted.pins (ap pins_of same.1) acted
      | inr more ↦ apart-is new step.acted.pins (ap pins_of more.1) acted
    ]

pub history-apart : (old : State) (entries : List Entry) (new : State) → Apart old.pins → History old entries new → Apart new.pins
history-apart old [] new a history = apart-is new old.pins (ap pins_of history) a
history-apart old (entry ∷ entries) new a history =
    history-apart history.0 entries new (step-apart old entry.event entry.reply history.0 a history.1) history.2

-- ---- the same by places in the list

differ-all : (p : TablePin) (xs : List TablePin) → DifferFrom p xs → All (Differ p) xs
differ-all p [] d = All-nil (Differ p)
differ-all p (x ∷ xs) d = All-cons (Differ p) x xs d.0 (differ-all p xs d.1)

pub apart-pairs : (xs : List TablePin) → Apart xs → AllPairs Differ xs
apart-pairs [] a = λ i j d below within. absurd (omega arith)
apart-pairs (x ∷ xs) a = AllPairs-cons Differ x xs (differ-all x xs a.0) (apart-pairs xs a.1)
