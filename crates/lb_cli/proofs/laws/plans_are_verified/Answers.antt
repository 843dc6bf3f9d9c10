use Rattle.std.proofs.Common.{ap, ◌∙◌}
use Rattle.lb_cli_verify.specs.Verify.{finding_of_reading, finding_of_verdict}
use Rattle.lb_cli.proofs.laws.plans_are_verified.Goals as goal

pub returns : goal.returns
returns c = λ sheet text written. ap finding_of_reading written.read_back ∙ ap finding_of_verdict written.accepted_alone
