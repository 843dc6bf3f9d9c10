use Rattle.http_relay_body.proofs.Rooms.{unfetched}
use Rattle.http_relay_body.proofs.chunks.room.Room.fetch.Goals as goal

pub returns-in_err-send_judged-clause-fetched : goal.returns-in_err-send_judged-clause-fetched
returns-in_err-send_judged-clause-fetched g c =
    unfetched _ _ _ _ _ _ _ _ _ c.from_residual.ensures.1 c.in_err-send_judged.ensures.cause c.in_err-send_judged.ensures.err
