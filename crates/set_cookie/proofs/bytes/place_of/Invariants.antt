use Rattle.std.proofs.Common.{◌≡◌, ◌+◌, drop}
use Rattle.lb_acl.specs.Bytes.{place_of}
use Rattle.set_cookie.proofs.bytes.place_of.Given as goal

abbrev pub invariant-loop-i : goal.invariant-loop-i
invariant-loop-i l = l.i + place_of l.mark (drop l.i l.bytes) ≡ place_of l.mark l.bytes
