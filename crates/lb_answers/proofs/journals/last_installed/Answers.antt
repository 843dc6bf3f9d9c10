use Rattle.lb_answers.specs.Journals.{plan_installed}
use Rattle.lb_answers.proofs.LastPlans.{last-more}
use Rattle.lb_answers.proofs.journals.last_installed.Goals as goal

pub loop-entry-preserved : goal.loop-entry-preserved
loop-entry-preserved c =
    rw c.or-last.ensures
    (last-more (λ entry. plan_installed entry.event entry.reply) c.args.entries.now c.loop-entry.entry-index c.entry-item.result c.plan_installed.result c.loop-entry.last c.loop-entry-test.true c.entry-item.is c.plan_installed.ensures c.loop-entry.invariant)
