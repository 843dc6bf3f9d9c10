use Rattle.std.proofs.Common.{refl}
use Rattle.http_relay_socket.proofs.fronted.FrontedWire.into_wire.Goals as goal

pub returns-clause-unread : goal.returns-clause-unread
returns-clause-unread g c = (c.args.self.front.now, refl)
