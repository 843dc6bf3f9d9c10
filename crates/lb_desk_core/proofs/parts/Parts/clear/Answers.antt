use Rattle.std.proofs.Common.{◌≡◌, ℕ, List, refl, sym, ap, ◌∙◌, subst, arith}
use Rattle.std.specs.Option.{ForSome}
use Rattle.capacity_book.specs.Book.{BookView, pins_at}
use Rattle.pin_set.specs.declared.table_pin.TablePin.{TablePin}
use Rattle.pin_table.specs.Pins.{IsTakenOut}
use Rattle.pin_table.specs.Tables.{TableParts}
use Rattle.lb_desk_model.specs.Seen.{Seen}
use Rattle.lb_desk_model.specs.Serves.{IsNew, load}
use Rattle.lb_desk_model.specs.declared.event.Event.TheVariants.{Clear}
use Rattle.lb_desk_model.specs.declared.reply.Reply.TheVariants.{Cleared, NoPin}
use Rattle.lb_desk_core.specs.Acting.{ActsOn}
use Rattle.lb_desk_core.specs.Core.{CoreView, IsReached}
use Rattle.lb_desk_core.specs.Parts.{AgreeParts, shown_of}
use Rattle.lb_desk_core.proofs.Room.{moved_held}
use Rattle.lb_desk_core.proofs.SetPins.{cleared_on, no_pin_on, out_loads}
use Rattle.lb_desk_core.proofs.parts.Parts.clear.Goals as goal

pub leave-requires : goal.leave-requires
leave-requires g c =
    let p = c.self.inside in
    let old : Seen = shown_of p.balance p.settings p.names.items p.farm p.book p.table p.cursor p.latest in
    let reached = subst (λ (v : CoreView). IsReached v.shown) (sym c.self.view_is) c.requires.reached in
    let t = c.in-Some.ensures.some in
    moved_held old reached p.book c.self.invariant.loads c.args.name.now c.in-Some.held (t.0, t.1, t.2)

pub invariant_of-self : goal.invariant_of-self
invariant_of-self g c =
    let p = c.self.inside in
    subst (λ (t : TableParts). AgreeParts p.settings p.names.items p.book t) (sym c.in_default.ensures.kept) c.self.invariant

pub invariant_of-self-2 : goal.invariant_of-self-2
invariant_of-self-2 g c =
    let p = c.self.inside in
    let held = c.in-Some.held in
    record {
      many = c.leave.ensures.many ∙ c.self.invariant.many;
      loads = λ s below.
          omega (
            arith,
            c.leave.ensures.pins s,
            c.leave.ensures.held s,
            c.self.invariant.loads s below,
            out_loads c.args.name.now held p.table.pins c.take_out.new.self.pins c.in-Some.ensures.some s,
          );
      as_set = subst (λ (t : TableParts). ForSome p.settings (λ s. (t.size ≡ s.size) × (t.no_purge ≡ s.no_purge))) (sym c.take_out.ensures.rest) c.self.invariant.as_set;
    }

pub returns-clause-acts : goal.returns-clause-acts
returns-clause-acts g c =
    let p = c.self.inside in
    let old : Seen = shown_of p.balance p.settings p.names.items p.farm p.book p.table p.cursor p.latest in
    let name = c.args.name.now in
    let table = c.take_out.new.self in
    let book = c.leave.new.book in
    let acts = cleared_on old name c.in-Some.held table.pins c.in-Some.ensures.some in
    let version : p.table.version ≡ table.version = sym (ap (λ (t : TableParts). t.version) c.take_out.ensures.rest) in
    let connections : p.book.connections ≡ book.connections = sym c.leave.ensures.connections in
    let new : record old { pins = table.pins } ≡ shown_of p.balance p.settings p.names.items p.farm book table p.cursor p.latest =
    λ i. record {
      balance = p.balance;
      table = p.settings;
      names = p.names.items;
      farm = p.farm;
      connections = connections i;
      pins = table.pins;
      cursor = p.cursor;
      latest = p.latest;
      version = version i;
    } in
    subst (λ (v : CoreView). ActsOn v.shown (Clear name) Cleared (shown_of p.balance p.settings p.names.items p.farm book table p.cursor p.latest)) c.self.view_is
    (subst (λ (s : Seen). ActsOn old (Clear name) Cleared s) new acts)

pub returns-in_default-clause-acts : goal.returns-in_default-clause-acts
returns-in_default-clause-acts g c =
    let p = c.self.inside in
    let name = c.args.name.now in
    let unknown = subst (λ (v : CoreView). IsNew name v.shown.pins) c.self.view_is c.in_default.ensures.none in
    subst (λ (t : TableParts). ActsOn c.args.self.now.shown (Clear name) NoPin (shown_of p.balance p.settings p.names.items p.farm p.book t p.cursor p.latest))
    (sym c.in_default.ensures.kept)
    (subst (λ (v : CoreView). ActsOn c.args.self.now.shown (Clear name) NoPin v.shown) (sym c.self.view_is) (no_pin_on c.args.self.now.shown name unknown))
