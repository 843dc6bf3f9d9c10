use Rattle.std.proofs.Common.{◌≡◌, length}
use Rattle.lb_config_arguments.specs.Reading.{each_word}
use Rattle.lb_config_parameters.specs.StickTables.{table_word, no_table}
use Rattle.lb_config_parameters.proofs.stick_table.read_draft.Given as goal

abbrev pub invariant-loop-word : goal.invariant-loop-word
invariant-loop-word l = each_word table_word l.table l.words ≡ each_word table_word no_table l.fn.words

abbrev pub decreases-loop-word : goal.decreases-loop-word
decreases-loop-word l = length l.words.words
