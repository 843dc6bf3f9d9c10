use Rattle.std.proofs.Common.{refl}
use Rattle.clap.proofs.OnLiterals.{clap_on_literals}
use Rattle.lb_cli_words.proofs.words.plain_request.Goals as goal

pub returns-in-verify : goal.returns-in-verify
unfolding clap_on_literals
returns-in-verify c = refl

pub returns-in-plan : goal.returns-in-plan
unfolding clap_on_literals
returns-in-plan c = refl

pub returns-in-format : goal.returns-in-format
unfolding clap_on_literals
returns-in-format c = refl

pub returns-in-sheet : goal.returns-in-sheet
unfolding clap_on_literals
returns-in-sheet c = refl

pub returns-in-commands : goal.returns-in-commands
unfolding clap_on_literals
returns-in-commands c = refl

pub returns-in-replay : goal.returns-in-replay
unfolding clap_on_literals
returns-in-replay c = refl

pub returns-in-check : goal.returns-in-check
unfolding clap_on_literals
returns-in-check c = refl

pub returns-in-run : goal.returns-in-run
unfolding clap_on_literals
returns-in-run c = refl

pub returns-in_default : goal.returns-in_default
unfolding clap_on_literals
returns-in_default c = refl
