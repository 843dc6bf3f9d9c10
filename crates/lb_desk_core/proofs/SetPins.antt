-- What setting a pin does to each state that is shown, and clearing one; and both as steps with the version counted.
use Rattle.std.proofs.Common.{◌≡◌, ◌≢◌, ℕ, ◌+◌, ◌-◌, ◌<◌, ◌≤◌, Bool, true, false, eqb, Option, Some, None, IsSome, List, [], ◌∷◌, ◌++◌, length, refl, sym, ap, subst, ◌∙◌, arith, ◌&&◌}
use Rattle.std.specs.Prelude.{max, All}
use Rattle.std.specs.Option.{ForSome}
use Rattle.std.proofs.lemmas.Bool.{false≢true, eqb-true}
use Rattle.std.proofs.lemmas.List.{length-map}
use Rattle.std.proofs.lemmas.List.Sums.{count_by-le-length}
use Rattle.lb_types.specs.Servers.{members}
use Rattle.pin_set.specs.Assignments.{is_at}
use Rattle.pin_set.specs.declared.pin.Pin.{Pin}
use Rattle.pin_set.specs.declared.pin.PinId.{PinId}
use Rattle.pin_set.specs.declared.table_pin.TablePin.{TablePin}
use Rattle.pin_set.specs.Views.{IsView}
use Rattle.server_state.specs.Farm.{FarmView}
use Rattle.capacity_book.specs.Book.{BookView}
use Rattle.lb_types.specs.declared.balance.Balance.{Balance}
use Rattle.lb_types.specs.declared.table_settings.TableSettings.{TableSettings}
use Rattle.pin_table.specs.declared.held.Held.{Held}
use Rattle.pin_table.specs.Pins.{Stands, IsTakenOut, IsUsed, held_pin, used_in}
use Rattle.pin_table.specs.Tables.{TableParts}
use Rattle.lb_desk_model.specs.declared.event.Event.{Event}
use Rattle.lb_desk_model.specs.declared.event.Event.TheVariants.{Set, Clear}
use Rattle.lb_desk_model.specs.declared.event.SetPin.{SetPin}
use Rattle.lb_desk_model.specs.declared.reply.PinnedAs.TheVariants as Put
use Rattle.lb_desk_model.specs.declared.reply.Reply.{Reply}
use Rattle.lb_desk_model.specs.declared.reply.Reply.TheVariants.{Pinned, NoTable, Cleared, NoPin, Refused}
use Rattle.lb_desk_model.specs.declared.reply.Refusal.TheVariants.{NoSuchServer, TableFull}
use Rattle.lb_desk_model.specs.declared.stand.Stand.{Stand}
use Rattle.lb_desk_model.specs.Seen.{Seen, Acts, Steps, seen, view_seen}
use Rattle.lb_desk_model.specs.Serves.{IsNew, is_full, keeps_pins, load, staying, used_at}
use Rattle.lb_desk_model.specs.Sets.{AreThere, after_set, put_last, set_pin}
use Rattle.lb_desk_model.specs.States.{State}
use Rattle.lb_desk_seen.proofs.Reaching.{shown_views_are_lawful}
use Rattle.lb_desk_servers.specs.Shown.{counted}
use Rattle.lb_desk_core.specs.Acting.{ActsOn, ForEach}
use Rattle.lb_desk_core.specs.Core.{IsReached}
use Rattle.lb_desk_core.specs.Parts.{shown_of}
use Rattle.lb_desk_core.specs.Requests.{moves_pin, one_at}
use Rattle.lb_desk_core.specs.SetPins.{HasPlace, ServersExist}
use Rattle.lb_desk_core.proofs.Counts.{load-append, load-cons}
use Rattle.lb_desk_core.proofs.Requests.{as_many}
use Rattle.lb_desk_core.proofs.Stepped.{steps_same, steps_more}

-- ---- servers and tables

are_there : (state : State) (shown : Seen) (set : SetPin) → seen state ≡ shown → ServersExist shown set → AreThere state set
are_there state shown set is exist =
    let many = as_many state shown is in
    record {
      server = subst (λ (n : ℕ). set.server < n) many exist.0;
      wanted = subst (λ (n : ℕ). All (λ (server : ℕ). server < n) (members set.name.want)) many exist.1;
    }

they_exist : (state : State) (shown : Seen) (set : SetPin) → seen state ≡ shown → AreThere state set → ServersExist shown set
they_exist state shown set is there =
    let many = sym (as_many state shown is) in
    (subst (λ (n : ℕ). set.server < n) many there.server, subst (λ (n : ℕ). All (λ (server : ℕ). server < n) (members set.name.want)) many there.wanted)

some_table : (state : State) (shown : Seen) → seen state ≡ shown → IsSome shown.table → IsSome state.table
some_table state shown is some = subst (λ (t : Option TableSettings). IsSome t) (sym (ap (λ (s : Seen). s.table) is)) some

new_at : (state : State) (shown : Seen) (name : PinId) → seen state ≡ shown → IsNew name shown.pins → IsNew name state.pins
new_at state shown name is unknown = subst (λ (ps : List TablePin). IsNew name ps) (sym (ap (λ (s : Seen). s.pins) is)) unknown

-- ---- a place that is a server

pub at_server : (server : ℕ) (place : Option ℕ) → is_at server place ≡ true → place ≡ Some server
at_server server None at = absurd (false≢true at)
at_server server (Some s) at = ap (λ (n : ℕ). Some n) (eqb-true s server at)

pub not_at : (server : ℕ) (place : Option ℕ) → is_at server place ≡ false → place ≢ Some server
not_at server place away same = false≢true (sym away ∙ (ap (is_at server) same ∙ eqb-refl server))
  where
    eqb-refl : (n : ℕ) → eqb n n ≡ true
    eqb-refl n = grind (arith, Rattle.std.proofs.lemmas.Bool.Decides.nat_tests)

-- ---- a pin that is set

pub unknown_set_on : (shown : Seen) (set : SetPin) → (ServersExist shown set → ⊥) → ActsOn shown (Set set) (Refused NoSuchServer) shown
unknown_set_on shown set unknown state is = record {
  acted = state;
  does = (λ there. unknown (they_exist state shown set is there), refl);
  shown = is;
}

pub no_table_on : (shown : Seen) (set : SetPin) → ServersExist shown set → shown.table ≡ None → ActsOn shown (Set set) NoTable shown
no_table_on shown set exist none state is = record {
  acted = state;
  does = (are_there state shown set is exist, ap (λ (s : Seen). s.table) is ∙ none, refl);
  shown = is;
}

pub full_on : (shown : Seen) (set : SetPin) → HasPlace shown set → IsNew set.name shown.pins
    → ForEach shown (λ state. (is_full state && keeps_pins state) ≡ true) → ActsOn shown (Set set) (Refused TableFull) shown
full_on shown set place unknown full state is = record {
  acted = state;
  does = (are_there state shown set is place.exist, some_table state shown is place.table, (new_at state shown set.name is unknown, full state is), refl);
  shown = is;
}

-- what holds of each state and what it shows, holds of each state that is shown
at_shown : (P : Seen → State → Type 0) → ((state : State) → P (seen state) state) → (shown : Seen) → ForEach shown (P shown)
at_shown P each shown state is = subst (λ (s : Seen). P s state) is (each state)

pub kept_set_on : (shown : Seen) (set : SetPin) (held : Held) (pins : List TablePin) → HasPlace shown set → Stands set.name held shown.pins
    → held.place ≡ Some set.server → IsUsed set.name held.place (max shown.latest set.moment) shown.pins pins
    → ActsOn shown (Set set) (Pinned Put.Kept) (record shown { pins = pins; latest = max shown.latest set.moment })
kept_set_on shown set held pins place stands at used state is =
    at_shown (λ (s : Seen) (st : State). HasPlace s set → Stands set.name held s.pins → IsUsed set.name held.place (max s.latest set.moment) s.pins pins
    → Acts st (Set set) (Pinned Put.Kept) (record s { pins = pins; latest = max s.latest set.moment }))
    each shown state is place stands used
  where
    each : (st : State) → HasPlace (seen st) set → Stands set.name held st.pins → IsUsed set.name held.place (max st.latest set.moment) st.pins pins
        → Acts st (Set set) (Pinned Put.Kept) (record (seen st) { pins = pins; latest = max st.latest set.moment })
    each st place stands used =
        let found = held_pin set.name held in
        let now = max st.latest set.moment in
        let is : pins ≡ put_last st set stands.0 found stands.1 =
        used stands.0 found stands.1 stands.2 ∙ ap (λ (at_place : Option ℕ). stands.0 ++ stands.1 ++ used_in found at_place now ∷ []) at in
        subst (λ (ps : List TablePin). Acts st (Set set) (Pinned Put.Kept) (record (seen st) { pins = ps; latest = now })) (sym is)
        (record {
          acted = after_set st set (put_last st set stands.0 found stands.1);
          does = (are_there st (seen st) set refl place.exist, place.table, (stands.0, found, stands.1, stands.2, at, refl));
          shown = refl;
        })

pub moved_set_on : (shown : Seen) (set : SetPin) (held : Held) (pins : List TablePin) → HasPlace shown set → Stands set.name held shown.pins
    → held.place ≢ Some set.server → IsUsed set.name (Some set.server) (max shown.latest set.moment) shown.pins pins
    → ActsOn shown (Set set) (Pinned Put.Moved) (record shown { pins = pins; latest = max shown.latest set.moment })
moved_set_on shown set held pins place stands away used state is =
    at_shown (λ (s : Seen) (st : State). HasPlace s set → Stands set.name held s.pins → IsUsed set.name (Some set.server) (max s.latest set.moment) s.pins pins
    → Acts st (Set set) (Pinned Put.Moved) (record s { pins = pins; latest = max s.latest set.moment }))
    each shown state is place stands used
  where
    each : (st : State) → HasPlace (seen st) set → Stands set.name held st.pins → IsUsed set.name (Some set.server) (max st.latest set.moment) st.pins pins
        → Acts st (Set set) (Pinned Put.Moved) (record (seen st) { pins = pins; latest = max st.latest set.moment })
    each st place stands used =
        let found = held_pin set.name held in
        let now = max st.latest set.moment in
        let is : pins ≡ put_last st set stands.0 found stands.1 = used stands.0 found stands.1 stands.2 in
        subst (λ (ps : List TablePin). Acts st (Set set) (Pinned Put.Moved) (record (seen st) { pins = ps; latest = now })) (sym is)
        (record {
          acted = after_set st set (put_last st set stands.0 found stands.1);
          does = (are_there st (seen st) set refl place.exist, place.table, (stands.0, found, stands.1, stands.2, away, refl));
          shown = refl;
        })

pub made_set_on : (shown : Seen) (set : SetPin) (pins : List TablePin) → HasPlace shown set → IsNew set.name shown.pins
    → ForEach shown (λ state. (is_full state && keeps_pins state) ≡ false)
    → ForEach shown (λ state. pins ≡ staying state ++ set_pin set (max shown.latest set.moment) ∷ [])
    → ActsOn shown (Set set) (Pinned Put.Made) (record shown { pins = pins; latest = max shown.latest set.moment })
made_set_on shown set pins place unknown room put state is =
    let acts : Acts state (Set set) (Pinned Put.Made) (record (seen state) {
      pins = staying state ++ set_pin set (max state.latest set.moment) ∷ [];
      latest = max state.latest set.moment;
    }) = record {
      acted = after_set state set (staying state ++ set_pin set (max state.latest set.moment) ∷ []);
      does = (are_there state shown set is place.exist, some_table state shown is place.table, (new_at state shown set.name is unknown, room state is, refl));
      shown = refl;
    } in
    subst (λ (s : Seen). pins ≡ staying state ++ set_pin set (max s.latest set.moment) ∷ []
    → Acts state (Set set) (Pinned Put.Made) (record s { pins = pins; latest = max s.latest set.moment })) is
    (λ there. subst (λ (ps : List TablePin). Acts state (Set set) (Pinned Put.Made) (record (seen state) { pins = ps; latest = max state.latest set.moment }))
    (sym there) acts)
    (put state is)

-- ---- a pin that is cleared

pub cleared_on : (shown : Seen) (name : PinId) (held : Held) (pins : List TablePin) → IsTakenOut name held shown.pins pins
    → ActsOn shown (Clear name) Cleared (record shown { pins = pins })
cleared_on shown name held pins taken state is =
    at_shown (λ (s : Seen) (st : State). IsTakenOut name held s.pins pins → Acts st (Clear name) Cleared (record s { pins = pins })) each shown state is taken
  where
    each : (st : State) → IsTakenOut name held st.pins pins → Acts st (Clear name) Cleared (record (seen st) { pins = pins })
    each st t =
        subst (λ (ps : List TablePin). Acts st (Clear name) Cleared (record (seen st) { pins = ps })) (sym t.3)
        (record {
          acted = record st { pins = t.0 ++ t.1 };
          does = record { before = t.0; found = held_pin name held; after = t.1; stands = t.2; new_is = refl };
          shown = refl;
        })

pub no_pin_on : (shown : Seen) (name : PinId) → IsNew name shown.pins → ActsOn shown (Clear name) NoPin shown
no_pin_on shown name unknown state is = record { acted = state; does = (new_at state shown name is unknown, refl); shown = is }

-- ---- the version

set_steps : (old new : Seen) (set : SetPin) (reply : Reply) → IsReached old → ActsOn old (Set set) reply new
    → Steps old (Set set) reply (record new { version = counted new.version (moves_pin reply) })
set_steps old new set (Pinned Put.Kept) r acts = steps_same old new (Set set) (Pinned Put.Kept) r acts tt
set_steps old new set (Pinned Put.Moved) r acts = steps_more old new (Set set) (Pinned Put.Moved) r acts (λ keeps. keeps)
set_steps old new set (Pinned Put.Made) r acts = steps_more old new (Set set) (Pinned Put.Made) r acts (λ keeps. keeps)
set_steps old new set NoTable r acts = steps_same old new (Set set) NoTable r acts tt
set_steps old new set (Refused refusal) r acts = steps_same old new (Set set) (Refused refusal) r acts tt
set_steps old new set reply r acts = absurd (acts r.reaches.state r.reaches.is).does

clear_steps : (old new : Seen) (name : PinId) (reply : Reply) → IsReached old → ActsOn old (Clear name) reply new
    → Steps old (Clear name) reply (record new { version = counted new.version (moves_pin reply) })
clear_steps old new name Cleared r acts = steps_more old new (Clear name) Cleared r acts (λ keeps. keeps)
clear_steps old new name NoPin r acts = steps_same old new (Clear name) NoPin r acts tt
clear_steps old new name reply r acts = absurd (acts r.reaches.state r.reaches.is).does

-- the core's parts after it
module _ (balance : Balance) (settings : Option TableSettings) (names : List (List ℕ)) (farm : FarmView) (book : BookView) (table new_table : TableParts) (cursor : Option Stand) (latest : ℕ)
    (old : Seen) (reply : Reply) (changes : Bool) (told : changes ≡ moves_pin reply) (counts : new_table ≡ record table { version = counted table.version changes }) where
  abbrev shown : TableParts → Seen
  shown t = shown_of balance settings names farm book t cursor latest

  parts_counted : (event : Event) → Steps old event reply (shown (record table { version = counted table.version (moves_pin reply) }))
      → Steps old event reply (shown new_table)
  parts_counted event steps =
      let same : record table { version = counted table.version (moves_pin reply) } ≡ record table { version = counted table.version changes } =
      ap (λ (b : Bool). record table { version = counted table.version b }) (sym told) in
      subst (λ (t : TableParts). Steps old event reply (shown t)) (same ∙ sym counts) steps

  pub set_parts : (set : SetPin) → IsReached old → ActsOn old (Set set) reply (shown table) → Steps old (Set set) reply (shown new_table)
  set_parts set r acts = parts_counted (Set set) (set_steps old (shown table) set reply r acts)

  pub cleared_parts : (name : PinId) → IsReached old → ActsOn old (Clear name) reply (shown table) → Steps old (Clear name) reply (shown new_table)
  cleared_parts name r acts = parts_counted (Clear name) (clear_steps old (shown table) name reply r acts)

-- ---- the book

-- no server has more pins than a table may have
pub few_loads : (shown : Seen) → IsReached shown → (server : ℕ) → load shown.pins server ≤ 16777216
few_loads shown r server =
    let lawful : IsView (view_seen shown) = shown_views_are_lawful r.backend r.log shown r.lawful r.reaches in
    let pin_of : TablePin → Pin = λ p. p.pin in
    omega (arith, lawful.few_pins, length-map shown.pins pin_of, count_by-le-length (λ (p : TablePin). is_at server p.pin.place) shown.pins)

-- a pin that goes
pub out_loads : (name : PinId) (held : Held) (pins left : List TablePin) → IsTakenOut name held pins left → (s : ℕ)
    → load left s + one_at held.place s ≡ load pins s
out_loads name held pins left t s =
    let found = held_pin name held in
    omega (
      arith,
      ap (λ (ps : List TablePin). load ps s) t.3,
      ap (λ (ps : List TablePin). load ps s) t.2.is,
      load-append t.0 (found ∷ t.1) s,
      load-append t.0 t.1 s,
      load-cons found t.1 s,
    )
