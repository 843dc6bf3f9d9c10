use Rattle.std.proofs.Common.{◌≡◌, true, ap, ◌∙◌}
use Rattle.std.proofs.lemmas.Result.{err_from_is_err_and}
use Rattle.lb_desk_step.specs.Desk.{DeskView}
use Rattle.lb_desk_step.specs.Planning.{is_worn_for_two}
use Rattle.lb_desk_shared.specs.Desks.{TiedView}
use Rattle.lb_desk_shared.proofs.Standing.{same_err, sees_as}
use Rattle.lb_desk_shared.proofs.shared.SharedDesk.plan_now.Goals as goal

pub returns-in_err-taken-clause-worn : goal.returns-in_err-taken-clause-worn
returns-in_err-taken-clause-worn g c worn =
    let p = err_from_is_err_and c.from_residual.result c.from_residual.ensures.1 in
    let refused = rw (p.1, p.2) at worn in
    let number = ap (λ (t : TiedView). t.keeper.number) c.deref_mut.ensures.value ∙ c.hold-held.ensures in
    sees_as g.B.Naming.opening _ c.args.self.now c.args.pass.now c.plan_now.new.pass (λ (desk : DeskView). is_worn_for_two desk ≡ true) number
    (c.in_err-taken.ensures.worn_at (same_err _ _ refused))
