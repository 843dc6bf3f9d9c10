use Rattle.std.proofs.Common.{subst}
use Rattle.dual_cert_plan.specs.Plans.{PlanParts}
use Rattle.lb_desk_model.specs.declared.event.Event.TheVariants.{Install}
use Rattle.lb_desk_shared.specs.Calls.{AddsStep}
use Rattle.lb_desk_seat.proofs.Planning.{handed_in}
use Rattle.lb_desk_seat.proofs.seat.Seat.hand_in.Goals as goal

pub returns-clause-adds : goal.returns-clause-adds
returns-clause-adds g c =
    let backend = g.B.Naming.opening c.args.self.now.pass.keeper in
    let old = c.args.self.now.pass in
    let new = c.tell.new.self.pass in
    let told = c.in_ok-reply.ensures in
    let step : AddsStep backend old (Install c.args.plan) c.in_ok-reply.reply new =
    subst (λ (p : PlanParts). AddsStep backend old (Install p) c.in_ok-reply.reply new) c.in_ok-plan.ensures told.step in
    (handed_in backend old new c.args.plan c.in_ok-reply.reply c.installing.result step c.requires.planned c.installing.ensures, told.adds.1)
