use Rattle.std.proofs.Common.{◌≡◌, length}
use Rattle.lb_config_arguments.specs.Reading.{each_word}
use Rattle.lb_config_conditions.specs.CondLines.{cond_word, no_cond}
use Rattle.lb_config_conditions.proofs.cond_lines.read_draft.Given as goal

abbrev pub invariant-loop-cond : goal.invariant-loop-cond
invariant-loop-cond l = each_word cond_word l.cond l.words ≡ each_word cond_word no_cond l.fn.words

abbrev pub decreases-loop-cond : goal.decreases-loop-cond
decreases-loop-cond l = length l.words.words
