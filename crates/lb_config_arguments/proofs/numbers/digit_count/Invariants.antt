use Rattle.std.proofs.Common.{◌≡◌, ◌+◌, drop}
use Rattle.lb_config_arguments.specs.Numbers.{digit_count}
use Rattle.lb_config_arguments.proofs.numbers.digit_count.Given as goal

abbrev pub invariant-loop-i : goal.invariant-loop-i
invariant-loop-i l = l.i + digit_count (drop l.i l.word) ≡ digit_count l.word
