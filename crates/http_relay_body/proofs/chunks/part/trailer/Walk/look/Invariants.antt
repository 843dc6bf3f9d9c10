use Rattle.std.proofs.Common.{◌-◌, length}
use Rattle.http_relay_body.specs.Trailers.{Walked}
use Rattle.http_relay_body.proofs.chunks.part.trailer.Walk.look.Given as goal

abbrev pub invariant-loop-self : goal.invariant-loop-self
invariant-loop-self l = Walked l.self l.text

abbrev pub decreases-loop-self : goal.decreases-loop-self
decreases-loop-self l = length l.text - l.self.bytes
