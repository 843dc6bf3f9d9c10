use Rattle.std.proofs.Common.{refl}
use Rattle.lb_desk_model.specs.declared.event.Event.TheVariants.{Open}
use Rattle.lb_desk_model.specs.Seen.{Seen}
use Rattle.lb_desk_core.specs.Parts.{shown_of}
use Rattle.lb_desk_core.proofs.Reached.{reached_further}
use Rattle.lb_desk_core.proofs.backend_core.Core.open_connection.Goals as goal

pub returns-clause-steps : goal.returns-clause-steps
returns-clause-steps g c =
    let p = c.self-inside.inside in
    let old : Seen = shown_of p.0.0.balance p.0.0.settings p.0.0.names.items p.0.0.farm p.0.0.book p.0.0.table p.0.0.cursor p.0.0.latest in
    rw (← c.self.view_is, ← c.self-inside.view_is) (c.open_connection.ensures.steps old refl refl)

pub invariant_of-self : goal.invariant_of-self
invariant_of-self g c =
    let p = c.self-inside.inside in
    let new : Seen = shown_of p.0.0.balance p.0.0.settings p.0.0.names.items p.0.0.farm c.open_connection.new.book p.0.0.table p.0.0.cursor p.0.0.latest in
    reached_further c.args.self.now.shown (Open c.args.server) c.open_connection.result new (rw (← c.self.view_is) c.self.invariant) (returns-clause-steps g c)
