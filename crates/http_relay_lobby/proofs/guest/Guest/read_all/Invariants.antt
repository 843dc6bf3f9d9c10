use Rattle.http_relay_lobby.specs.Reads.{ReadOn}
use Rattle.http_relay_lobby.proofs.guest.Guest.read_all.Given as goal

-- what was read so far was read of the same client's connection
abbrev pub invariant-loop : goal.invariant-loop
invariant-loop g l = ReadOn g.S.Read.remaining l.fn.self.arrival l.guest.arrival
