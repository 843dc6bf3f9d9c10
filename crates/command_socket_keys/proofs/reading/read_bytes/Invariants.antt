use Rattle.std.proofs.Common.{◌≡◌, length}
use Rattle.command_socket_keys.specs.Keys.{bytes_in}
use Rattle.command_socket_keys.proofs.Escapes.{then}
use Rattle.command_socket_keys.proofs.reading.read_bytes.Given as goal

-- the bytes so far and those of what is left are all of them
abbrev pub invariant-loop-first : goal.invariant-loop-first
invariant-loop-first l = then l.bytes.items (bytes_in l.rest) ≡ bytes_in l.fn.word

abbrev pub decreases-loop-first : goal.decreases-loop-first
decreases-loop-first l = length l.rest
