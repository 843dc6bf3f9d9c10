-- Pins that are set: the requests that come after it, and tables that are made of them.
use Rattle.std.proofs.Common.{◌≡◌, ◌≢◌, ℕ, ◌+◌, ◌<◌, ◌≤◌, zero, suc, Bool, true, false, cond, leb, ◌&&◌, Option, Some, None, List, [], ◌∷◌, ◌++◌, length, get_or, drop, refl, sym, ap, ◌∙◌, subst, inl, inr, append_assoc, append-nil, arith}
use Rattle.std.specs.Prelude.{All, AllPairs}
use Rattle.std.specs.Option.{option_map_or}
use Rattle.std.proofs.lemmas.Bool.{false≢true, lt-leb}
use Rattle.std.proofs.lemmas.List.Elements.{All-head, All-tail, All-cons, All-nil}
use Rattle.std.proofs.lemmas.Option.{none-some, same_Some}
use Rattle.lb_types.specs.declared.table_settings.TableSettings.{TableSettings}
use Rattle.lb_types.specs.Servers.{members}
use Rattle.pin_set.specs.declared.pin.PinId.{PinId}
use Rattle.pin_set.specs.declared.table_pin.TablePin.{TablePin}
use Rattle.pin_set.specs.Pins.{honoured}
use Rattle.pin_set.specs.Views.{IsBelow}
use Rattle.lb_desk_model.specs.declared.entry.Entry.{Entry}
use Rattle.lb_desk_model.specs.declared.event.Event.{Event}
use Rattle.lb_desk_model.specs.declared.event.Event.TheVariants.{Serve, Set}
use Rattle.lb_desk_model.specs.declared.event.Request.{Request}
use Rattle.lb_desk_model.specs.declared.event.SetPin.{SetPin}
use Rattle.lb_desk_model.specs.declared.reply.PinnedAs.{PinnedAs}
use Rattle.lb_desk_model.specs.declared.reply.PinnedAs.TheVariants as Put
use Rattle.lb_desk_model.specs.declared.reply.Refusal.TheVariants.{NoSuchServer, NoServer, TableFull}
use Rattle.lb_desk_model.specs.declared.reply.Reply.{Reply}
use Rattle.lb_desk_model.specs.declared.reply.Reply.TheVariants.{Served, Pinned, NoTable, Refused}
use Rattle.lb_desk_model.specs.declared.reply.ServedAs.{ServedAs}
use Rattle.lb_desk_model.specs.declared.reply.ServedAs.TheVariants.{Kept, Moved, Made, Loose}
use Rattle.lb_desk_model.specs.Histories.{History}
use Rattle.lb_desk_model.specs.Serves.{AreServers, HasNoServer, IsLoose, IsNew, MakesPin, MovesPin, Serves, StandsBetween, is_full, keeps_pins, moment_of, name_of, staying, used_at, want_of}
use Rattle.lb_desk_model.specs.Sets.{AreThere, Sets, after_set, set_pin}
use Rattle.lb_desk_model.specs.States.{State, opening, serving, usable}
use Rattle.lb_desk_model.specs.Steps.{Does, Step}
use Rattle.lb_desk_law.specs.SetPins.{AreSetsOf, IsSetOf, MayStand, SetPinsAreKept, SetPinsMakeTheTable}
use Rattle.lb_desk_law.proofs.Apart.{Apart, Differ, DifferFrom, Across, apart-cut, history-apart, step-apart}

abbrev pins_of : State → List TablePin
pins_of s = s.pins

-- ---- the last pin of a list

-- the last pin has this name, and is at this server
record EndsIn (name : PinId) (server : ℕ) (pins : List TablePin) : Type 0 where
  front : List TablePin
  last : TablePin
  is : pins ≡ front ++ last ∷ []
  named : last.pin.id ≡ name
  at : last.pin.place ≡ Some server

differ-last : (p : TablePin) (xs : List TablePin) (q : TablePin) → DifferFrom p (xs ++ q ∷ []) → Differ p q
differ-last p [] q d = d.0
differ-last p (x ∷ xs) q d = differ-last p xs q d.1

abbrev pub tail_of : List TablePin → List TablePin
tail_of [] = []
tail_of (p ∷ ps) = ps

not_nil : (before : List TablePin) (found : TablePin) (after : List TablePin) → before ++ found ∷ after ≡ [] → ⊥
not_nil [] found after e = absurd cc
not_nil (b ∷ before) found after e = absurd cc

-- a pin of the last one's name, which those behind it haven't, is the last one
last_is : (before : List TablePin) (found : TablePin) (after front : List TablePin) (last : TablePin) → before ++ found ∷ after ≡ front ++ last ∷ []
    → DifferFrom found after → found.pin.id ≡ last.pin.id → found ≡ last
last_is [] found after [] last e d same = let is : found ≡ last = cc in is
last_is [] found after (f ∷ front) last e d same =
    absurd (differ-last found front last (subst (λ (ps : List TablePin). DifferFrom found ps) (ap tail_of e) d) same)
last_is (b ∷ before) found after [] last e d same = absurd (not_nil before found after (ap tail_of e))
last_is (b ∷ before) found after (f ∷ front) last e d same = last_is before found after front last (ap tail_of e) d same

-- so its name isn't new to the list
known_last : (front : List TablePin) (last : TablePin) (name : PinId) → last.pin.id ≡ name → IsNew name (front ++ last ∷ []) → ⊥
known_last [] last name named unknown = All-head (λ (p : TablePin). p.pin.id ≢ name) last [] unknown named
known_last (f ∷ front) last name named unknown =
    known_last front last name named (All-tail (λ (p : TablePin). p.pin.id ≢ name) f (front ++ last ∷ []) unknown)

-- ---- a request after it

module _ (state : State) (request : Request) (name : PinId) (server : ℕ) (apart : Apart state.pins) (ends : EndsIn name server state.pins)
    (named : name_of state request ≡ Some name) (kept : honoured (Some server) (want_of request) (usable state) (serving state server) ≡ true) where
  same_name : (other : PinId) → name_of state request ≡ Some other → other ≡ name
  same_name other is = same_Some other name (sym is ∙ named)

  is_last : (other : PinId) (before : List TablePin) (found : TablePin) (after : List TablePin) → name_of state request ≡ Some other
      → StandsBetween other state.pins before found after → found.pin.place ≡ Some server
  is_last other before found after other_named stands =
      let parts = apart-cut before (found ∷ after) (subst Apart stands.is apart) in
      let is : found ≡ ends.last = last_is before found after ends.front ends.last (sym stands.is ∙ ends.is) parts.1.0
      (stands.named ∙ (same_name other other_named ∙ sym ends.named)) in
      ap (λ (p : TablePin). p.pin.place) is ∙ ends.at

  moves_not : (before : List TablePin) (found : TablePin) (after : List TablePin) → MovesPin state request before found after → ⊥
  moves_not before found after moves =
      false≢true (sym (moves.not_honoured server (is_last moves.name before found after moves.named moves.stands)) ∙ kept)

  new_not : (other : PinId) → name_of state request ≡ Some other → IsNew other state.pins → ⊥
  new_not other is unknown =
      known_last ends.front ends.last other (ends.named ∙ sym (same_name other is)) (subst (λ (ps : List TablePin). IsNew other ps) ends.is unknown)

  loose_not : IsLoose state request → ⊥
  loose_not loose = elim loose [
    | inl none ↦ absurd (none-some name (sym none ∙ named))
    | inr full ↦ absurd (new_not full.0 full.1 full.2)
  ]

  none_not : HasNoServer state request → ⊥
  none_not none = elim none [
    | inl moved ↦ absurd (moves_not moved.0 moved.1 moved.2 moved.3)
    | inr other ↦ elim other [
      | inl made ↦ absurd (new_not made.0 made.1.named made.1.unknown)
      | inr loose ↦ absurd (loose_not loose.0)
    ]
  ]

  served_kept : (s : ℕ) (how : ServedAs) (new : State) → Serves state request s how new → Served s how ≡ Served server Kept
  served_kept s Kept new t =
      let keeps = t.3 in
      let there = is_last keeps.name t.0 t.1 t.2 keeps.named keeps.stands in
      ap (λ (n : ℕ). Served n Kept) (same_Some s server (sym keeps.at ∙ there))
  served_kept s Moved new t = absurd (moves_not t.0 t.1 t.2 t.4)
  served_kept s Made new t = absurd (new_not t.0 t.2.named t.2.unknown)
  served_kept s Loose new t = absurd (loose_not t.1)

  serve_kept : (reply : Reply) (new : State) → AreServers state request.rules → Does state (Serve request) reply new → reply ≡ Served server Kept
  serve_kept (Served s how) new known d = served_kept s how new d.1
  serve_kept (Refused NoSuchServer) new known d = absurd (d.0 known)
  serve_kept (Refused NoServer) new known d = absurd (none_not d.1)
  serve_kept reply new known d = absurd d

-- where it was set, it is the last one
set_ends : (old : State) (set : SetPin) (how : PinnedAs) (new : State) → Sets old set how new → EndsIn set.name set.server new.pins
set_ends old set Put.Kept new s = record {
  front = s.0 ++ s.2;
  last = used_at s.1 set.server (moment_of old set.moment);
  is = ap pins_of s.5;
  named = s.3.named;
  at = refl;
}
set_ends old set Put.Moved new s = record {
  front = s.0 ++ s.2;
  last = used_at s.1 set.server (moment_of old set.moment);
  is = ap pins_of s.5;
  named = s.3.named;
  at = refl;
}
set_ends old set Put.Made new s = record {
  front = staying old;
  last = set_pin set (moment_of old set.moment);
  is = ap pins_of s.2;
  named = refl;
  at = refl;
}

step_ends : (old : State) (set : SetPin) (how : PinnedAs) (new : State) → Step old (Set set) (Pinned how) new → EndsIn set.name set.server new.pins
step_ends old set how new step =
    let does = step.does in
    let acted : EndsIn set.name set.server step.acted.pins = set_ends old set how step.acted does.2 in
    elim step.counts [
      | inl same ↦ subst (λ (ps : List TablePin). EndsIn set.name set.server ps) (sym (ap pins_of same.1)) acted
      | inr more ↦ subst (λ (ps : List TablePin). EndsIn set.name set.server ps) (sym (ap pins_of more.1)) acted
    ]

pub set_pins_are_kept : SetPinsAreKept
set_pins_are_kept backend log old mid new set how request reply history setting named known kept step =
    let apart = step-apart old (Set set) (Pinned how) mid (history-apart (opening backend) log old tt history) setting in
    let ends = step_ends old set how mid setting in
    serve_kept mid request set.name set.server apart ends named kept reply step.acted known step.does

-- ---- pins of distinct names

without_second : (x y : TablePin) (ys : List TablePin) → AllPairs Differ (x ∷ y ∷ ys) → AllPairs Differ (x ∷ ys)
without_second x y ys a i zero d before within = absurd (omega (arith, before))
without_second x y ys a zero (suc j) d before within = a 0 (suc (suc j)) d (omega arith) (omega (arith, within))
without_second x y ys a (suc i) (suc j) d before within = a (suc (suc i)) (suc (suc j)) d (omega (arith, before)) (omega (arith, within))

differ-of : (x : TablePin) (xs : List TablePin) → AllPairs Differ (x ∷ xs) → DifferFrom x xs
differ-of x [] a = tt
differ-of x (y ∷ ys) a = (a 0 1 x (omega arith) (omega arith), differ-of x ys (without_second x y ys a))

apart-of : (xs : List TablePin) → AllPairs Differ xs → Apart xs
apart-of [] a = tt
apart-of (x ∷ xs) a = (differ-of x xs a, apart-of xs (λ i j d before within. a (suc i) (suc j) d (omega (arith, before)) (omega (arith, within))))

-- each of these has another name than the one behind them
across-new : (xs : List TablePin) (q : TablePin) (qs : List TablePin) → Across xs (q ∷ qs) → IsNew q.pin.id xs
across-new [] q qs c = All-nil (λ (p : TablePin). p.pin.id ≢ q.pin.id)
across-new (x ∷ xs) q qs c = All-cons (λ (p : TablePin). p.pin.id ≢ q.pin.id) x xs c.0.0 (across-new xs q qs c.1)

pub between_not_new : (name : PinId) (before : List TablePin) (found : TablePin) (after : List TablePin) → IsNew name (before ++ found ∷ after)
    → found.pin.id ≡ name → ⊥
between_not_new name [] found after unknown named = All-head (λ (p : TablePin). p.pin.id ≢ name) found after unknown named
between_not_new name (b ∷ before) found after unknown named =
    between_not_new name before found after (All-tail (λ (p : TablePin). p.pin.id ≢ name) b (before ++ found ∷ after) unknown) named

-- ---- one pin after another

-- the first ones are the table, and the others may be set
record IsReady (state : State) (table : TableSettings) (done rest : List TablePin) : Type 0 where
  is_set : state.table ≡ Some table
  pins : state.pins ≡ done
  apart : Apart (done ++ rest)
  few : length (done ++ rest) ≤ table.size
  rising : AllPairs (λ (a b : TablePin). a.last_use ≤ b.last_use) rest
  late : All (λ (p : TablePin). state.latest ≤ p.last_use) rest
  placed : All (λ (p : TablePin). IsBelow (length state.servers) p.pin.place) rest
  wanted : All (λ (p : TablePin). All (λ (server : ℕ). server < length state.servers) (members p.pin.id.want)) rest

length-both : (xs ys : List TablePin) → length (xs ++ ys) ≡ length xs + length ys
length-both [] ys = omega arith
length-both (x ∷ xs) ys = let rest = length-both xs ys in omega arith

abbrev pin_of : PinId → Option ℕ → ℕ → ℕ → TablePin
pin_of name place cost at = record { pin = record { id = name; place = place; cost = cost }; last_use = at }

module _ (state : State) (table : TableSettings) (done : List TablePin) (p : TablePin) (rest : List TablePin) (set : SetPin)
    (ready : IsReady state table done (p ∷ rest)) (is : IsSetOf p set) where
  unknown : IsNew set.name state.pins
  unknown =
      let parts = apart-cut done (p ∷ rest) ready.apart in
      subst (λ (name : PinId). IsNew name state.pins) (sym is.name)
      (subst (λ (ps : List TablePin). IsNew p.pin.id ps) (sym ready.pins) (across-new done p rest parts.2))

  not_full : is_full state ≡ false
  not_full =
      let both = length-both done (p ∷ rest) in
      let less : length done < table.size = omega (arith, both, ready.few) in
      ap (λ (t : Option TableSettings). option_map_or (λ (s : TableSettings). leb s.size (length state.pins)) t true) ready.is_set
      ∙ (ap (λ (ps : List TablePin). leb table.size (length ps)) ready.pins ∙ lt-leb table.size (length done) less)

  before_it : state.latest ≤ p.last_use
  before_it = All-head (λ (q : TablePin). state.latest ≤ q.last_use) p rest ready.late

  now_is : moment_of state set.moment ≡ p.last_use
  now_is = omega (arith, before_it, is.moment)

  pin_is : set_pin set (moment_of state set.moment) ≡ p
  pin_is =
      ap (λ (name : PinId). pin_of name (Some set.server) set.cost (moment_of state set.moment)) is.name
      ∙ (ap (λ (place : Option ℕ). pin_of p.pin.id place set.cost (moment_of state set.moment)) (sym is.place)
      ∙ (ap (λ (cost : ℕ). pin_of p.pin.id p.pin.place cost (moment_of state set.moment)) is.cost
      ∙ ap (λ (at : ℕ). pin_of p.pin.id p.pin.place p.pin.cost at) now_is))

  there : AreThere state set
  there = record {
    server = All-head (λ (q : TablePin). IsBelow (length state.servers) q.pin.place) p rest ready.placed set.server is.place;
    wanted = subst (λ (name : PinId). All (λ (server : ℕ). server < length state.servers) (members name.want)) (sym is.name)
        (All-head (λ (q : TablePin). All (λ (server : ℕ). server < length state.servers) (members q.pin.id.want)) p rest ready.wanted);
  }

  stays_all : staying state ≡ done
  stays_all = ap (λ (b : Bool). cond b (drop 1 state.pins) state.pins) not_full ∙ ready.pins

  sets_made : (how : PinnedAs) (new : State) → Sets state set how new → new ≡ after_set state set (done ++ p ∷ [])
  sets_made Put.Kept new s = absurd (between_not_new set.name s.0 s.1 s.2 (subst (λ (ps : List TablePin). IsNew set.name ps) s.3.is unknown) s.3.named)
  sets_made Put.Moved new s = absurd (between_not_new set.name s.0 s.1 s.2 (subst (λ (ps : List TablePin). IsNew set.name ps) s.3.is unknown) s.3.named)
  sets_made Put.Made new s =
      s.2
      ∙ (ap (λ (ps : List TablePin). after_set state set (ps ++ set_pin set (moment_of state set.moment) ∷ [])) stays_all
      ∙ ap (λ (q : TablePin). after_set state set (done ++ q ∷ [])) pin_is)

  does_made : (reply : Reply) (new : State) → Does state (Set set) reply new → new ≡ after_set state set (done ++ p ∷ [])
  does_made (Pinned how) new d = sets_made how new d.2
  does_made NoTable new d = absurd (none-some table (sym d.1 ∙ ready.is_set))
  does_made (Refused NoSuchServer) new d = absurd (d.0 there)
  does_made (Refused TableFull) new d = absurd (false≢true (sym (ap (λ (b : Bool). b && keeps_pins state) not_full) ∙ d.2.1))
  does_made reply new d = absurd d

  next_late : (k : ℕ) (d : TablePin) → k < length rest → moment_of state set.moment ≤ (get_or rest k d).last_use
  next_late k d below =
      let rises = ready.rising 0 (suc k) d (omega arith) (omega (arith, below)) in
      omega (arith, now_is, rises)

  next_ready : (new : State) (version : ℕ) → new ≡ record (after_set state set (done ++ p ∷ [])) { version = version } → IsReady new table (done ++ p ∷ []) rest
  next_ready new version e = rw e (record {
    is_set = ready.is_set;
    pins = refl;
    apart = subst Apart (sym (append_assoc done (p ∷ []) rest)) ready.apart;
    few = subst (λ (ps : List TablePin). length ps ≤ table.size) (sym (append_assoc done (p ∷ []) rest)) ready.few;
    rising = λ i j d before within. ready.rising (suc i) (suc j) d (omega (arith, before)) (omega (arith, within));
    late = next_late;
    placed = All-tail (λ (q : TablePin). IsBelow (length state.servers) q.pin.place) p rest ready.placed;
    wanted = All-tail (λ (q : TablePin). All (λ (server : ℕ). server < length state.servers) (members q.pin.id.want)) p rest ready.wanted;
  })

  step_ready : (reply : Reply) (new : State) → Step state (Set set) reply new → IsReady new table (done ++ p ∷ []) rest
  step_ready reply new step =
      let made = does_made reply step.acted step.does in
      elim step.counts [
        | inl same ↦ next_ready new state.version (same.1 ∙ made)
        | inr more ↦ next_ready new (state.version + 1) (more.1 ∙ ap (λ (s : State). record s { version = state.version + 1 }) made)
      ]

all_set : (state new : State) (table : TableSettings) (done rest : List TablePin) (entries : List Entry) → IsReady state table done rest
    → AreSetsOf rest entries → History state entries new → new.pins ≡ done ++ rest
all_set state new table done [] [] ready sets history = ap pins_of history ∙ (ready.pins ∙ sym (append-nil done))
all_set state new table done [] (entry ∷ entries) ready sets history = absurd sets
all_set state new table done (p ∷ rest) [] ready sets history = absurd sets
all_set state new table done (p ∷ rest) (entry ∷ entries) ready sets history =
    let one = sets.0 in
    let step : Step state (Set one.0) entry.reply history.0 = subst (λ (e : Event). Step state e entry.reply history.0) one.1 history.1 in
    let next = step_ready state table done p rest one.0 ready one.2 entry.reply history.0 step in
    all_set history.0 new table (done ++ p ∷ []) rest entries next sets.1 history.2 ∙ append_assoc done (p ∷ []) rest

pub set_pins_make_the_table : SetPinsMakeTheTable
set_pins_make_the_table state new pins entries none may sets history =
    all_set state new may.table [] pins entries (record {
      is_set = may.is_set;
      pins = none;
      apart = apart-of pins may.distinct;
      few = may.few;
      rising = may.rising;
      late = may.late;
      placed = may.placed;
      wanted = may.wanted;
    }) sets history
