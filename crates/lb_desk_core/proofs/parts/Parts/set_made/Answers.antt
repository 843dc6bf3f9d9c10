use Rattle.std.proofs.Common.{◌≡◌, ℕ, ◌&&◌, false, Some, List, [], ◌∷◌, ◌++◌, max, refl, sym, ap, ◌∙◌, subst, arith}
use Rattle.std.specs.Option.{ForSome}
use Rattle.pin_set.specs.declared.pin.PinId.{PinId}
use Rattle.pin_set.specs.declared.table_pin.TablePin.{TablePin}
use Rattle.capacity_book.specs.Book.{pins_at}
use Rattle.pin_table.specs.Pins.{made_pin}
use Rattle.pin_table.specs.Tables.{TableParts, after_use}
use Rattle.pin_table.specs.Tables.{staying as table_staying}
use Rattle.pin_table.proofs.Counting.{on_ok}
use Rattle.lb_desk_model.specs.Seen.{Seen}
use Rattle.lb_desk_model.specs.Serves.{IsNew, is_full, keeps_pins, load, staying}
use Rattle.lb_desk_model.specs.Sets.{set_pin}
use Rattle.lb_desk_model.specs.declared.event.Event.TheVariants.{Set}
use Rattle.lb_desk_model.specs.declared.reply.PinnedAs.TheVariants as Put
use Rattle.lb_desk_model.specs.declared.reply.Reply.TheVariants.{Pinned}
use Rattle.lb_desk_pick.specs.Sights.{lost_place}
use Rattle.lb_desk_core.specs.Acting.{ActsOn, ForEach}
use Rattle.lb_desk_core.specs.Core.{CoreView, IsReached}
use Rattle.lb_desk_core.specs.Parts.{shown_of}
use Rattle.lb_desk_core.specs.SetPins.{HasPlace}
use Rattle.lb_desk_core.proofs.Room.{lost_held, made_loads, staying_same}
use Rattle.lb_desk_core.proofs.SetPins.{few_loads, made_set_on}
use Rattle.lb_desk_core.proofs.Shown.{shown_used}
use Rattle.lb_desk_core.proofs.parts.Parts.set_made.Goals as goal

pub send-requires-clause-held : goal.send-requires-clause-held
send-requires-clause-held g c =
    let p = c.self.inside in
    let old : Seen = shown_of p.balance p.settings p.names.items p.farm p.book p.table p.cursor p.latest in
    let is = sym c.self.view_is in
    let reached = subst (λ (v : CoreView). IsReached v.shown) is c.requires.reached in
    let lost = subst (λ (v : CoreView). ForEach v.shown (λ state. lost_place state ≡ c.lost_place-lost.result)) is c.lost_place-lost.ensures in
    lost_held old reached p.book c.self.invariant.loads c.lost_place-lost.result (lost reached.reaches.state reached.reaches.is)

pub send-requires-clause-is_there : goal.send-requires-clause-is_there
send-requires-clause-is_there g c =
    let place = subst (λ (v : CoreView). HasPlace v.shown c.args.set.now) (sym c.self.view_is) c.requires.place in
    omega (arith, place.exist.0, c.self.invariant.many)

pub send-requires-clause-fits : goal.send-requires-clause-fits
send-requires-clause-fits g c =
    let p = c.self.inside in
    let old : Seen = shown_of p.balance p.settings p.names.items p.farm p.book p.table p.cursor p.latest in
    let is = sym c.self.view_is in
    let reached = subst (λ (v : CoreView). IsReached v.shown) is c.requires.reached in
    let place = subst (λ (v : CoreView). HasPlace v.shown c.args.set.now) is c.requires.place in
    let server = c.args.set.now.server in
    omega (arith, few_loads old reached server, c.self.invariant.loads server place.exist.0)

pub invariant_of-self-2 : goal.invariant_of-self-2
invariant_of-self-2 g c =
    let p = c.self.inside in
    let old : Seen = shown_of p.balance p.settings p.names.items p.farm p.book p.table p.cursor p.latest in
    let set = c.args.set.now in
    let is = sym c.self.view_is in
    let place = subst (λ (v : CoreView). HasPlace v.shown set) is c.requires.place in
    let reached = subst (λ (v : CoreView). IsReached v.shown) is c.requires.reached in
    let lost = subst (λ (v : CoreView). ForEach v.shown (λ state. lost_place state ≡ c.lost_place-lost.result)) is c.lost_place-lost.ensures in
    let st = reached.reaches.state in
    let made = made_pin c.in_ok-copy.copy set.server set.cost c.moment_of-now.result in
    let inserted : c.insert.new.self ≡ after_use p.table (table_staying p.table ++ made ∷ []) =
    on_ok c.insert.result c.insert.ensures.ok (sym c.if-is_err.false ∙ c.is_err.ensures.value) in
    let pins : c.insert.new.self.pins ≡ staying st ++ made ∷ [] =
    ap (λ (t : TableParts). t.pins) inserted
    ∙ ap (λ (ps : List TablePin). ps ++ made ∷ []) (sym (staying_same st old p.table reached.reaches.is refl c.self.invariant.as_set place.table)) in
    record {
      many = c.send.ensures.many ∙ c.self.invariant.many;
      loads = λ s below.
          made_loads st c.lost_place-lost.result made set.server (lost st reached.reaches.is) refl s (pins_at p.book s) (pins_at c.send.new.book s) (c.send.ensures.pins s)
          (c.self.invariant.loads s below ∙ sym (ap (λ (q : Seen). load q.pins s) reached.reaches.is))
          ∙ sym (ap (λ (ps : List TablePin). load ps s) pins);
      as_set = subst (λ (t : TableParts). ForSome p.settings (λ s. (t.size ≡ s.size) × (t.no_purge ≡ s.no_purge))) (sym inserted) c.self.invariant.as_set;
    }

pub returns-clause-acts : goal.returns-clause-acts
returns-clause-acts g c =
    let p = c.self.inside in
    let old : Seen = shown_of p.balance p.settings p.names.items p.farm p.book p.table p.cursor p.latest in
    let set = c.args.set.now in
    let book = c.send.new.book in
    let table = c.insert.new.self in
    let now = c.moment_of-now.result in
    let is = sym c.self.view_is in
    let place = subst (λ (v : CoreView). HasPlace v.shown set) is c.requires.place in
    let unknown = subst (λ (v : CoreView). IsNew set.name v.shown.pins) is c.requires.unknown in
    let room = subst (λ (v : CoreView). ForEach v.shown (λ state. (is_full state && keeps_pins state) ≡ false)) is c.requires.room in
    let late = subst (λ (v : CoreView). now ≡ max v.shown.latest set.moment) is c.moment_of-now.ensures in
    let made = made_pin c.in_ok-copy.copy set.server set.cost now in
    let inserted : table ≡ after_use p.table (table_staying p.table ++ made ∷ []) =
    on_ok c.insert.result c.insert.ensures.ok (sym c.if-is_err.false ∙ c.is_err.ensures.value) in
    let rest : table ≡ after_use p.table table.pins = inserted ∙ ap (after_use p.table) (sym (ap (λ (t : TableParts). t.pins) inserted)) in
    let put : ForEach old (λ state. table.pins ≡ staying state ++ set_pin set (max old.latest set.moment) ∷ []) =
    λ state shown.
    ap (λ (t : TableParts). t.pins) inserted
    ∙ (ap (λ (ps : List TablePin). ps ++ made ∷ []) (sym (staying_same state old p.table shown refl c.self.invariant.as_set place.table))
    ∙ (ap (λ (n : PinId). staying state ++ made_pin n set.server set.cost now ∷ []) c.in_ok-copy.ensures
    ∙ ap (λ (m : ℕ). staying state ++ made_pin set.name set.server set.cost m ∷ []) late)) in
    let acts = made_set_on old set table.pins place unknown room put in
    let new = shown_used p.balance p.settings p.names.items p.farm p.book p.table p.cursor p.latest book table p.cursor now (max old.latest set.moment)
    c.send.ensures.connections rest late in
    subst (λ (v : CoreView). ActsOn v.shown (Set set) (Pinned Put.Made) (shown_of p.balance p.settings p.names.items p.farm book table p.cursor now)) c.self.view_is
    (subst (λ (s : Seen). ActsOn old (Set set) (Pinned Put.Made) s) new acts)
