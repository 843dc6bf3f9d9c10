use Rattle.std.proofs.Common.{◌≡◌, ℕ, Some, max, refl, sym, subst, ◌∙◌, arith}
use Rattle.std.specs.Option.{ForSome}
use Rattle.capacity_book.specs.Book.{pins_at}
use Rattle.pin_table.specs.Pins.{Stands, IsUsed}
use Rattle.pin_table.specs.Tables.{TableParts}
use Rattle.lb_desk_model.specs.Seen.{Seen}
use Rattle.lb_desk_model.specs.declared.event.Event.TheVariants.{Set}
use Rattle.lb_desk_model.specs.declared.reply.PinnedAs.TheVariants as Put
use Rattle.lb_desk_model.specs.declared.reply.Reply.TheVariants.{Pinned}
use Rattle.lb_desk_core.specs.Acting.{ActsOn}
use Rattle.lb_desk_core.specs.Core.{CoreView, IsReached}
use Rattle.lb_desk_core.specs.Parts.{shown_of}
use Rattle.lb_desk_core.specs.SetPins.{HasPlace}
use Rattle.lb_desk_core.proofs.Room.{moved_held, moved_loads}
use Rattle.lb_desk_core.proofs.SetPins.{few_loads, moved_set_on, not_at}
use Rattle.lb_desk_core.proofs.Shown.{shown_used}
use Rattle.lb_desk_core.proofs.parts.Parts.set_moved.Goals as goal

pub send-requires-clause-held : goal.send-requires-clause-held
send-requires-clause-held g c =
    let p = c.self.inside in
    let old : Seen = shown_of p.balance p.settings p.names.items p.farm p.book p.table p.cursor p.latest in
    let name = c.args.set.now.name in
    let held = c.args.held in
    let is = sym c.self.view_is in
    let reached = subst (λ (v : CoreView). IsReached v.shown) is c.requires.reached in
    let stands = subst (λ (v : CoreView). Stands name held v.shown.pins) is c.requires.stands in
    moved_held old reached p.book c.self.invariant.loads name held stands

pub send-requires-clause-is_there : goal.send-requires-clause-is_there
send-requires-clause-is_there g c =
    let place = subst (λ (v : CoreView). HasPlace v.shown c.args.set.now) (sym c.self.view_is) c.requires.place in
    omega (arith, place.exist.0, c.self.invariant.many)

pub send-requires-clause-fits : goal.send-requires-clause-fits
send-requires-clause-fits g c =
    let p = c.self.inside in
    let old : Seen = shown_of p.balance p.settings p.names.items p.farm p.book p.table p.cursor p.latest in
    let is = sym c.self.view_is in
    let reached = subst (λ (v : CoreView). IsReached v.shown) is c.requires.reached in
    let place = subst (λ (v : CoreView). HasPlace v.shown c.args.set.now) is c.requires.place in
    let server = c.args.set.now.server in
    omega (arith, few_loads old reached server, c.self.invariant.loads server place.exist.0)

pub invariant_of-self-2 : goal.invariant_of-self-2
invariant_of-self-2 g c =
    let p = c.self.inside in
    let set = c.args.set.now in
    let held = c.args.held in
    let stands = subst (λ (v : CoreView). Stands set.name held v.shown.pins) (sym c.self.view_is) c.requires.stands in
    record {
      many = c.send.ensures.many ∙ c.self.invariant.many;
      loads = λ s below.
          moved_loads set.name held set.server c.moment_of-now.result p.table.pins c.move_to.new.self.pins stands c.in_ok-move_to.ensures.used
          s (pins_at p.book s) (pins_at c.send.new.book s) (c.send.ensures.pins s) (c.self.invariant.loads s below);
      as_set = subst (λ (t : TableParts). ForSome p.settings (λ s. (t.size ≡ s.size) × (t.no_purge ≡ s.no_purge))) (sym c.in_ok-move_to.ensures.rest) c.self.invariant.as_set;
    }

pub returns-clause-acts : goal.returns-clause-acts
returns-clause-acts g c =
    let p = c.self.inside in
    let old : Seen = shown_of p.balance p.settings p.names.items p.farm p.book p.table p.cursor p.latest in
    let set = c.args.set.now in
    let held = c.args.held in
    let book = c.send.new.book in
    let table = c.move_to.new.self in
    let now = c.moment_of-now.result in
    let is = sym c.self.view_is in
    let place = subst (λ (v : CoreView). HasPlace v.shown set) is c.requires.place in
    let stands = subst (λ (v : CoreView). Stands set.name held v.shown.pins) is c.requires.stands in
    let late = subst (λ (v : CoreView). now ≡ max v.shown.latest set.moment) is c.moment_of-now.ensures in
    let used = subst (λ (m : ℕ). IsUsed set.name (Some set.server) m old.pins table.pins) late c.in_ok-move_to.ensures.used in
    let acts = moved_set_on old set held table.pins place stands (not_at set.server held.place c.requires.away) used in
    let new = shown_used p.balance p.settings p.names.items p.farm p.book p.table p.cursor p.latest book table p.cursor now (max old.latest set.moment)
    c.send.ensures.connections c.in_ok-move_to.ensures.rest late in
    subst (λ (v : CoreView). ActsOn v.shown (Set set) (Pinned Put.Moved) (shown_of p.balance p.settings p.names.items p.farm book table p.cursor now)) c.self.view_is
    (subst (λ (s : Seen). ActsOn old (Set set) (Pinned Put.Moved) s) new acts)
