-- A set, or a clear, of a state has one reply and leaves one state.
use Rattle.std.proofs.Common.{◌≡◌, ◌≢◌, ℕ, ◌+◌, Bool, true, false, ◌&&◌, Option, Some, None, IsSome, is_some, List, [], ◌∷◌, ◌++◌, refl, sym, ap, ◌∙◌, subst, inl, inr}
use Rattle.std.proofs.lemmas.Bool.{false≢true}
use Rattle.lb_types.specs.declared.table_settings.TableSettings.{TableSettings}
use Rattle.pin_set.specs.declared.pin.PinId.{PinId}
use Rattle.pin_set.specs.declared.table_pin.TablePin.{TablePin}
use Rattle.lb_desk_model.specs.declared.event.Event.{Event}
use Rattle.lb_desk_model.specs.declared.event.Event.TheVariants.{Set, Clear}
use Rattle.lb_desk_model.specs.declared.event.SetPin.{SetPin}
use Rattle.lb_desk_model.specs.declared.reply.PinnedAs.{PinnedAs}
use Rattle.lb_desk_model.specs.declared.reply.PinnedAs.TheVariants as Put
use Rattle.lb_desk_model.specs.declared.reply.Refusal.TheVariants.{NoSuchServer, TableFull}
use Rattle.lb_desk_model.specs.declared.reply.Reply.{Reply}
use Rattle.lb_desk_model.specs.declared.reply.Reply.TheVariants.{Pinned, NoTable, Cleared, NoPin, Refused}
use Rattle.lb_desk_model.specs.Serves.{IsNew, StandsBetween, is_full, keeps_pins}
use Rattle.lb_desk_model.specs.Sets.{Clears, HasNoRoom, Sets, after_set, put_last}
use Rattle.lb_desk_model.specs.States.{SameView, State, opening, view_of}
use Rattle.lb_desk_model.specs.Steps.{Counts, Does, Step}
use Rattle.lb_desk_law.specs.SetPins.{SetsAreOne, ClearsAreOne}
use Rattle.lb_desk_law.proofs.Apart.{Apart, Differ, DifferFrom, history-apart}
use Rattle.lb_desk_law.proofs.SetPins.{between_not_new, tail_of}

-- ---- a name stands at one place

differ-middle : (p : TablePin) (xs : List TablePin) (q : TablePin) (ys : List TablePin) → DifferFrom p (xs ++ q ∷ ys) → Differ p q
differ-middle p [] q ys d = d.0
differ-middle p (x ∷ xs) q ys d = differ-middle p xs q ys d.1

cut_same : (before : List TablePin) (found : TablePin) (after front : List TablePin) (other : TablePin) (rest : List TablePin)
    → Apart (before ++ found ∷ after) → before ++ found ∷ after ≡ front ++ other ∷ rest → found.pin.id ≡ other.pin.id
    → (before ≡ front) × (found ≡ other) × (after ≡ rest)
cut_same [] found after [] other rest apart e same = let is : found ≡ other = cc in (refl, is, ap tail_of e)
cut_same [] found after (f ∷ front) other rest apart e same =
    absurd (differ-middle found front other rest (subst (λ (ps : List TablePin). DifferFrom found ps) (ap tail_of e) apart.0) same)
cut_same (b ∷ before) found after [] other rest apart e same =
    let is : b ≡ other = cc in
    absurd (differ-middle b before found after apart.0 (ap (λ (p : TablePin). p.pin.id) is ∙ sym same))
cut_same (b ∷ before) found after (f ∷ front) other rest apart e same =
    let is : b ≡ f = cc in
    let more = cut_same before found after front other rest apart.1 (ap tail_of e) same in
    (ap (λ (l : List TablePin). b ∷ l) more.0 ∙ ap (λ (x : TablePin). x ∷ front) is, more.1, more.2)

-- the parts of two such places
record Alike (before front : List TablePin) (found other : TablePin) (after rest : List TablePin) : Type 0 where
  before_is : before ≡ front
  found_is : found ≡ other
  after_is : after ≡ rest

between_same : (name : PinId) (pins before front : List TablePin) (found other : TablePin) (after rest : List TablePin) → Apart pins
    → StandsBetween name pins before found after → StandsBetween name pins front other rest → Alike before front found other after rest
between_same name pins before front found other after rest apart one two =
    let same = cut_same before found after front other rest (subst Apart one.is apart) (sym one.is ∙ two.is) (one.named ∙ sym two.named) in
    record { before_is = same.0; found_is = same.1; after_is = same.2 }

put_same : (old : State) (set : SetPin) (before front : List TablePin) (found other : TablePin) (after rest : List TablePin)
    → Alike before front found other after rest
    → after_set old set (put_last old set before found after) ≡ after_set old set (put_last old set front other rest)
put_same old set before front found other after rest a =
    ap (λ (l : List TablePin). after_set old set (put_last old set l found after)) a.before_is
    ∙ (ap (λ (p : TablePin). after_set old set (put_last old set front p after)) a.found_is
    ∙ ap (λ (l : List TablePin). after_set old set (put_last old set front other l)) a.after_is)

stands_not_new : (name : PinId) (pins before : List TablePin) (found : TablePin) (after : List TablePin) → StandsBetween name pins before found after
    → IsNew name pins → ⊥
stands_not_new name pins before found after stands unknown =
    between_not_new name before found after (subst (λ (ps : List TablePin). IsNew name ps) stands.is unknown) stands.named

-- ---- a set

record AreOne (reply other : Reply) (new next : State) : Type 0 where
  replies : reply ≡ other
  states : new ≡ next

sets_same : (old : State) (set : SetPin) (how other : PinnedAs) (new next : State) → Apart old.pins → Sets old set how new → Sets old set other next
    → AreOne (Pinned how) (Pinned other) new next
sets_same old set Put.Kept Put.Kept new next apart s t = record {
  replies = refl;
  states = s.5 ∙ (put_same old set s.0 t.0 s.1 t.1 s.2 t.2 (between_same set.name old.pins s.0 t.0 s.1 t.1 s.2 t.2 apart s.3 t.3) ∙ sym t.5);
}
sets_same old set Put.Kept Put.Moved new next apart s t =
    let alike = between_same set.name old.pins s.0 t.0 s.1 t.1 s.2 t.2 apart s.3 t.3 in
    absurd (t.4 (sym (ap (λ (p : TablePin). p.pin.place) alike.found_is) ∙ s.4))
sets_same old set Put.Kept Put.Made new next apart s t = absurd (stands_not_new set.name old.pins s.0 s.1 s.2 s.3 t.0)
sets_same old set Put.Moved Put.Kept new next apart s t =
    let alike = between_same set.name old.pins s.0 t.0 s.1 t.1 s.2 t.2 apart s.3 t.3 in
    absurd (s.4 (ap (λ (p : TablePin). p.pin.place) alike.found_is ∙ t.4))
sets_same old set Put.Moved Put.Moved new next apart s t = record {
  replies = refl;
  states = s.5 ∙ (put_same old set s.0 t.0 s.1 t.1 s.2 t.2 (between_same set.name old.pins s.0 t.0 s.1 t.1 s.2 t.2 apart s.3 t.3) ∙ sym t.5);
}
sets_same old set Put.Moved Put.Made new next apart s t = absurd (stands_not_new set.name old.pins s.0 s.1 s.2 s.3 t.0)
sets_same old set Put.Made Put.Kept new next apart s t = absurd (stands_not_new set.name old.pins t.0 t.1 t.2 t.3 s.0)
sets_same old set Put.Made Put.Moved new next apart s t = absurd (stands_not_new set.name old.pins t.0 t.1 t.2 t.3 s.0)
sets_same old set Put.Made Put.Made new next apart s t = record { replies = refl; states = s.2 ∙ sym t.2 }

has_room : (old : State) (set : SetPin) (how : PinnedAs) (new : State) → Sets old set how new → HasNoRoom old set → ⊥
has_room old set Put.Kept new s full = stands_not_new set.name old.pins s.0 s.1 s.2 s.3 full.0
has_room old set Put.Moved new s full = stands_not_new set.name old.pins s.0 s.1 s.2 s.3 full.0
has_room old set Put.Made new s full = false≢true (sym s.1 ∙ full.1)

some_none : (table : Option TableSettings) → IsSome table → table ≡ None → ⊥
some_none table some none = false≢true (sym (ap is_some none) ∙ some)

pinned_once : (old : State) (set : SetPin) (how : PinnedAs) (other : Reply) (new next : State) → Apart old.pins → Does old (Set set) (Pinned how) new
    → Does old (Set set) other next → AreOne (Pinned how) other new next
pinned_once old set how (Pinned other) new next apart d e = sets_same old set how other new next apart d.2 e.2
pinned_once old set how NoTable new next apart d e = absurd (some_none old.table d.1 e.1)
pinned_once old set how (Refused NoSuchServer) new next apart d e = absurd (e.0 d.0)
pinned_once old set how (Refused TableFull) new next apart d e = absurd (has_room old set how new d.2 e.2)
pinned_once old set how other new next apart d e = absurd e

no_table_once : (old : State) (set : SetPin) (other : Reply) (new next : State) → Does old (Set set) NoTable new → Does old (Set set) other next
    → AreOne NoTable other new next
no_table_once old set (Pinned other) new next d e = absurd (some_none old.table e.1 d.1)
no_table_once old set NoTable new next d e = record { replies = refl; states = d.2 ∙ sym e.2 }
no_table_once old set (Refused NoSuchServer) new next d e = absurd (e.0 d.0)
no_table_once old set (Refused TableFull) new next d e = absurd (some_none old.table e.1 d.1)
no_table_once old set other new next d e = absurd e

unknown_once : (old : State) (set : SetPin) (other : Reply) (new next : State) → Does old (Set set) (Refused NoSuchServer) new → Does old (Set set) other next
    → AreOne (Refused NoSuchServer) other new next
unknown_once old set (Pinned other) new next d e = absurd (d.0 e.0)
unknown_once old set NoTable new next d e = absurd (d.0 e.0)
unknown_once old set (Refused NoSuchServer) new next d e = record { replies = refl; states = d.1 ∙ sym e.1 }
unknown_once old set (Refused TableFull) new next d e = absurd (d.0 e.0)
unknown_once old set other new next d e = absurd e

full_once : (old : State) (set : SetPin) (other : Reply) (new next : State) → Does old (Set set) (Refused TableFull) new → Does old (Set set) other next
    → AreOne (Refused TableFull) other new next
full_once old set (Pinned other) new next d e = absurd (has_room old set other next e.2 d.2)
full_once old set NoTable new next d e = absurd (some_none old.table d.1 e.1)
full_once old set (Refused NoSuchServer) new next d e = absurd (e.0 d.0)
full_once old set (Refused TableFull) new next d e = record { replies = refl; states = d.3 ∙ sym e.3 }
full_once old set other new next d e = absurd e

set_once : (old : State) (set : SetPin) (reply other : Reply) (new next : State) → Apart old.pins → Does old (Set set) reply new
    → Does old (Set set) other next → AreOne reply other new next
set_once old set (Pinned how) other new next apart d e = pinned_once old set how other new next apart d e
set_once old set NoTable other new next apart d e = no_table_once old set other new next d e
set_once old set (Refused NoSuchServer) other new next apart d e = unknown_once old set other new next d e
set_once old set (Refused TableFull) other new next apart d e = full_once old set other new next d e
set_once old set reply other new next apart d e = absurd d

-- ---- a clear

cleared_once : (old : State) (name : PinId) (other : Reply) (new next : State) → Apart old.pins → Clears old name new
    → Does old (Clear name) other next → AreOne Cleared other new next
cleared_once old name Cleared new next apart c e =
    let alike = between_same name old.pins c.before e.before c.found e.found c.after e.after apart c.stands e.stands in
    record {
      replies = refl;
      states = c.new_is
          ∙ (ap (λ (l : List TablePin). record old { pins = l ++ c.after }) alike.before_is
          ∙ (ap (λ (l : List TablePin). record old { pins = e.before ++ l }) alike.after_is ∙ sym e.new_is));
    }
cleared_once old name NoPin new next apart c e = absurd (stands_not_new name old.pins c.before c.found c.after c.stands e.0)
cleared_once old name other new next apart c e = absurd e

none_once : (old : State) (name : PinId) (other : Reply) (new next : State) → Does old (Clear name) NoPin new → Does old (Clear name) other next
    → AreOne NoPin other new next
none_once old name Cleared new next d e = absurd (stands_not_new name old.pins e.before e.found e.after e.stands d.0)
none_once old name NoPin new next d e = record { replies = refl; states = d.1 ∙ sym e.1 }
none_once old name other new next d e = absurd e

clear_once : (old : State) (name : PinId) (reply other : Reply) (new next : State) → Apart old.pins → Does old (Clear name) reply new
    → Does old (Clear name) other next → AreOne reply other new next
clear_once old name Cleared other new next apart d e = cleared_once old name other new next apart d e
clear_once old name NoPin other new next apart d e = none_once old name other new next d e
clear_once old name reply other new next apart d e = absurd d

-- ---- with the version counted

counted_once : (old acted other new next : State) → acted ≡ other → Counts old acted new → Counts old other next → new ≡ next
counted_once old acted other new next is one two = elim one [
  | inl same ↦ elim two [
    | inl also ↦ same.1 ∙ (is ∙ sym also.1)
    | inr more ↦ absurd (more.0 (subst (λ (s : State). SameView (view_of old) (view_of s)) is same.0))
  ]
  | inr more ↦ elim two [
    | inl same ↦ absurd (more.0 (subst (λ (s : State). SameView (view_of old) (view_of s)) (sym is) same.0))
    | inr also ↦ more.1 ∙ (ap (λ (s : State). record s { version = old.version + 1 }) is ∙ sym also.1)
  ]
]

pub sets_are_one : SetsAreOne
sets_are_one backend log old set reply other new next history one two =
    let apart = history-apart (opening backend) log old tt history in
    let same = set_once old set reply other one.acted two.acted apart one.does two.does in
    (same.replies, counted_once old one.acted two.acted new next same.states one.counts two.counts)

pub clears_are_one : ClearsAreOne
clears_are_one backend log old name reply other new next history one two =
    let apart = history-apart (opening backend) log old tt history in
    let same = clear_once old name reply other one.acted two.acted apart one.does two.does in
    (same.replies, counted_once old one.acted two.acted new next same.states one.counts two.counts)
