use Rattle.std.proofs.Common.{◌≡◌, length}
use Rattle.lb_config_arguments.specs.Reading.{each_word}
use Rattle.lb_config_parameters.specs.Options.{option_word, said, no_options}
use Rattle.lb_config_parameters.proofs.options_state.read_state.Given as goal

abbrev pub invariant-loop-word : goal.invariant-loop-word
invariant-loop-word l =
    each_word (option_word l.is_default) l.state l.words ≡ each_word (option_word l.is_default) (said no_options) l.fn.words

abbrev pub decreases-loop-word : goal.decreases-loop-word
decreases-loop-word l = length l.words.words
