use Rattle.std.proofs.Common.{refl}
use Rattle.http_relay_socket.proofs.fronted.FrontedWire.wire.Goals as goal

pub returns-clause-unread : goal.returns-clause-unread
returns-clause-unread g c = (c.args.self.now.front.now, refl)
