use Rattle.std.proofs.Common.{◌≡◌, length}
use Rattle.lb_config_hints.specs.Near.{is_near}
use Rattle.lb_config_hints.proofs.near.is_near.Given as goal

abbrev pub invariant-loop-a : goal.invariant-loop-a
invariant-loop-a l = is_near l.word l.known ≡ is_near l.fn.word l.fn.known

abbrev pub decreases-loop-a : goal.decreases-loop-a
decreases-loop-a l = length l.word
