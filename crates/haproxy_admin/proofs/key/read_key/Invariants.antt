use Rattle.std.proofs.Common.{◌≡◌, length}
use Rattle.haproxy_admin.specs.Keys.{key_at}
use Rattle.haproxy_admin.proofs.Escapes.{then}
use Rattle.haproxy_admin.proofs.key.read_key.Given as goal

-- the bytes so far and those of what is left are all of them
abbrev pub invariant-loop-rest : goal.invariant-loop-rest
invariant-loop-rest l = then l.bytes.items (key_at l.rest) ≡ key_at l.fn.text

abbrev pub decreases-loop-rest : goal.decreases-loop-rest
decreases-loop-rest l = length l.rest
