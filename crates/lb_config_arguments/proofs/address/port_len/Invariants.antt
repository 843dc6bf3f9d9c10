use Rattle.std.proofs.Common.{◌≡◌, ◌+◌, ◌≤◌, length, take}
use Rattle.lb_config_arguments.specs.Addresses.{port_len}
use Rattle.lb_config_arguments.proofs.address.port_len.Given as goal

abbrev pub invariant-loop-end : goal.invariant-loop-end
invariant-loop-end l = (l.end ≤ length l.word) × (l.end + port_len l.word ≡ length l.word + port_len (take l.end l.word))

abbrev pub decreases-loop-end : goal.decreases-loop-end
decreases-loop-end l = l.end
