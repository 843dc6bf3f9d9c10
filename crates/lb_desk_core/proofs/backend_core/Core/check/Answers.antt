use Rattle.std.proofs.Common.{refl}
use Rattle.lb_desk_model.specs.declared.event.Event.TheVariants.{Check}
use Rattle.lb_desk_model.specs.Seen.{Seen}
use Rattle.lb_desk_core.specs.Parts.{shown_of}
use Rattle.lb_desk_core.proofs.Reached.{reached_further}
use Rattle.lb_desk_core.proofs.backend_core.Core.check.Goals as goal

pub returns-clause-steps : goal.returns-clause-steps
returns-clause-steps g c =
    let p = c.self-inside.inside in
    let old : Seen = shown_of p.0.0.balance p.0.0.settings p.0.0.names.items p.0.0.farm p.0.0.book p.0.0.table p.0.0.cursor p.0.0.latest in
    rw (← c.self.view_is, ← c.self-inside.view_is, c.count.ensures) (c.check-reply.ensures.steps old refl)

pub invariant_of-self : goal.invariant_of-self
invariant_of-self g c =
    let p = c.self-inside.inside in
    let new : Seen = shown_of p.0.0.balance p.0.0.settings p.0.0.names.items c.check-reply.new.farm p.0.0.book c.count.new.table p.0.0.cursor p.0.0.latest in
    reached_further c.args.self.now.shown (Check c.args.server c.args.ok) c.check-reply.result.reply new (rw (← c.self.view_is) c.self.invariant) (returns-clause-steps g c)
