use Rattle.lb_config_valid.proofs.Checked.{checked_are_valid}
use Rattle.lb_config_valid.proofs.laws.checked_sections_are_valid.Goals as goal

pub returns : goal.returns
returns c = checked_are_valid
