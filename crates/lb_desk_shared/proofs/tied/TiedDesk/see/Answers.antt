use Rattle.lb_desk_shared.proofs.Standing.{sees_now}
use Rattle.lb_desk_shared.proofs.tied.TiedDesk.see.Goals as goal

pub returns-clause-sees : goal.returns-clause-sees
returns-clause-sees g c =
    let p = c.self.inside in
    rw (← c.self.view_is)
    (sees_now (g.B.Naming.opening p.keeper.number) p.keeper.history c.args.pass.now c.see.new.pass p.desk c.self.invariant.0 c.see.ensures.sound c.see.ensures.pass)
