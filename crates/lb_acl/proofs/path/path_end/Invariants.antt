use Rattle.std.proofs.Common.{◌≡◌, ◌+◌, drop}
use Rattle.std.specs.List.{position_or_len}
use Rattle.lb_acl.specs.Paths.{ends_path}
use Rattle.lb_acl.proofs.path.path_end.Given as goal

abbrev pub invariant-loop-i : goal.invariant-loop-i
invariant-loop-i l = l.i + position_or_len ends_path (drop l.i l.bytes) ≡ position_or_len ends_path l.bytes
