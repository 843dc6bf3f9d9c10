use Rattle.std.proofs.Common.{◌++◌, ◌∙◌, ap, sym}
use Rattle.std.specs.List.{flat_map}
use Rattle.lb_cli.specs.CheckingAll.{aside}
use Rattle.lb_cli.proofs.AllFaults.{valid_report}
use Rattle.lb_cli.proofs.check_all_job.full_report.Goals as goal

pub returns-then-report-clause-text : goal.returns-then-report-clause-text
returns-then-report-clause-text c =
    let report = c.in_ok-report in
    let said = c.in_ok-full.ensures.text in
    valid_report c.args.text.now c.in_ok-full.full.text.items said.0 (sym report.ensures.valid ∙ c.if-report.true)
    (said.1 ∙ ap (λ front. front ++ flat_map aside said.0) report.ensures.text)
