use Rattle.lb_desk_model.specs.declared.event.Event.TheVariants.{Open}
use Rattle.lb_desk_ports.specs.Ports.{opening_reply}
use Rattle.lb_desk_shared.proofs.Receiving.{adds_step}
use Rattle.lb_desk_shared.proofs.shared.SharedDesk.open.Goals as goal

pub returns-clause-step : goal.returns-clause-step
returns-clause-step g c =
    let told = c.in_ok-told.told in
    adds_step (g.B.Naming.opening c.args.self.now) c.args.pass.now c.take.new.pass told.number (Open c.args.server) told.reply (opening_reply c.in-Some.opening)
    c.in_ok-told.ensures.receipt c.in_ok-told.ensures.step c.in-Some.ensures.reply
