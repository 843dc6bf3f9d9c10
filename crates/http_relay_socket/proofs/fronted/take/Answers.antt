use Rattle.std.proofs.Common.{arith}
use Rattle.http_relay_socket.proofs.Fronts.{front_first}
use Rattle.http_relay_socket.proofs.fronted.take.Goals as goal

pub returns-then-not-is_empty-clause-bytes : goal.returns-then-not-is_empty-clause-bytes
returns-then-not-is_empty-clause-bytes g c =
    front_first c.args.front.now.now c.copy_from_slice.new.self _ c.min-count.result _ (omega (arith, c.min-count.ensures)) c.copy_from_slice.ensures.after
