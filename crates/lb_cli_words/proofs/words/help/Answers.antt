use Rattle.lb_cli_words.specs.Words.{texts}
use Rattle.lb_cli_words.proofs.Exact.{help_or_memory, never_taken}
use Rattle.lb_cli_words.proofs.words.help.Goals as goal

pub returns : goal.returns
returns c = help_or_memory _ (texts c.plain_request.result.now) c.in-Err.error c.in_ok-commands.ensures c.plain_request.ensures c.in-Err.ensures.kinds

pub unreachable-requires : goal.unreachable-requires
unreachable-requires c = never_taken _ (texts c.plain_request.result.now) c.in_ok-commands.ensures c.plain_request.ensures c.in-Ok.ensures.kinds
