use Rattle.std.proofs.Common.{inl, inr, refl}
use Rattle.lb_run.proofs.JobEnds.{by_pins, with_pins}
use Rattle.lb_run.proofs.job.read_and_run.Goals as goal

pub returns-in-Ok-clause-runs : goal.returns-in-Ok-clause-runs
returns-in-Ok-clause-runs g c = with_pins c.run_and_report-in-Ok.result _ c.args.config.now _ _ _ _ c.run_and_report-in-Ok.ensures.runs
