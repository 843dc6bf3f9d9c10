use Rattle.std.proofs.Common.{◌≡◌, ◌+◌, drop}
use Rattle.std.specs.List.{prefix_len}
use Rattle.lb_acl.specs.Bytes.{is_blank}
use Rattle.lb_acl.proofs.bytes.blanks_before.Given as goal

abbrev pub invariant-loop-i : goal.invariant-loop-i
invariant-loop-i l = l.i + prefix_len is_blank (drop l.i l.bytes) ≡ prefix_len is_blank l.bytes
