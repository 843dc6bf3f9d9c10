use Rattle.lb_cli_words.proofs.operands.+asks_help_within.Given as goal

abbrev pub decreases-asks_help_within : goal.decreases-asks_help_within
decreases-asks_help_within l = l.operands
