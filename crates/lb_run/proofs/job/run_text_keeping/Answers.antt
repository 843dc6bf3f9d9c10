use Rattle.std.proofs.Common.{◌≡◌, Err}
use Rattle.lb_config.specs.Configs.{config_in}
use Rattle.lb_run.proofs.JobEnds.{is_config, printed, ran}
use Rattle.lb_run.proofs.job.run_text_keeping.Goals as goal

pub returns-in-Ok-clause-runs : goal.returns-in-Ok-clause-runs
returns-in-Ok-clause-runs g c =
    ran c.read_and_run.result _ (config_in c.args.text.now) c.in-Ok.config _ _ _ _ c.in-Ok.ensures c.read_and_run.ensures.runs

pub returns-in-Ok-clause-cannot_read : goal.returns-in-Ok-clause-cannot_read
returns-in-Ok-clause-cannot_read g c = λ wrong. is_config (config_in c.args.text.now) c.in-Ok.config c.in-Ok.ensures

pub returns-in-Err-Fault-clause-runs : goal.returns-in-Err-Fault-clause-runs
returns-in-Err-Fault-clause-runs g c =
    let read : config_in c.args.text.now ≡ Err c.in-Err-Fault.fault = rw c.in-Err-Fault.field-0-is at c.in-Err-Fault.ensures in
    printed c.print_fault.result _ (config_in c.args.text.now) c.in-Err-Fault.fault _ _ _ read c.print_fault.ensures.prints

pub returns-in-Err-Fault-clause-cannot_read : goal.returns-in-Err-Fault-clause-cannot_read
returns-in-Err-Fault-clause-cannot_read g c = λ wrong. absurd (c.print_fault.ensures.cannot_read wrong)
