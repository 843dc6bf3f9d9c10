use Rattle.std.proofs.Common.{◌≡◌, not, eqb, ◌∙◌}
use Rattle.server_state.specs.Farm.{usable}
use Rattle.lb_desk_servers.proofs.Checked.{check_steps}
use Rattle.lb_desk_servers.proofs.changes.check.Goals as goal

pub returns-clause-steps : goal.returns-clause-steps
returns-clause-steps c =
    let old = c.args.farm.now in
    let new = c.check.new.self in
    let changes : c.ne-changes_view.result ≡ not (eqb (usable new) (usable old)) =
    c.ne-changes_view.ensures ∙ (λ i. not (eqb (c.usable.ensures.exact i) (c.usable-usable.ensures.exact i))) in
    rw (c.reply_of_check-reply.ensures, changes) (check_steps old new c.check.result c.args.server c.args.ok c.check.ensures)
