use Rattle.lb_desk_step.proofs.Stepping.{keeps_headline, keeps_none_bad}
use Rattle.lb_desk_step.proofs.desk.Desk.stands_at_a_log.Goals as goal

pub returns-clause-headline : goal.returns-clause-headline
returns-clause-headline g c = keeps_headline c.args.self.now

pub returns-clause-none_bad : goal.returns-clause-none_bad
returns-clause-none_bad g c = keeps_none_bad c.args.self.now
