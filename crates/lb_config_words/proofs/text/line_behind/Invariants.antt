use Rattle.std.proofs.Common.{◌≡◌, ◌+◌, ◌≤◌, length}
use Rattle.lb_config_words.specs.Texts.{line_behind}
use Rattle.lb_config_words.proofs.text.line_behind.Given as goal

abbrev pub invariant-loop-parts : goal.invariant-loop-parts
invariant-loop-parts l = (l.number + length l.parts ≡ line_behind l.front) × (l.number + length l.parts ≤ 1048577)

abbrev pub decreases-loop-parts : goal.decreases-loop-parts
decreases-loop-parts l = length l.parts
