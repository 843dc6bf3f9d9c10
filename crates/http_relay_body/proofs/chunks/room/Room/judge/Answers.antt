use Rattle.std.proofs.Common.{◌++◌, take, drop, ap, ◌∙◌}
use Rattle.http_relay_body.specs.Rooms.{RoomView}
use Rattle.http_relay_body.proofs.Rooms.{room_of, room_judged}
use Rattle.http_relay_body.proofs.chunks.room.Room.judge.Goals as goal

pub returns : goal.returns
returns c =
    room_judged (take c.self.inside.filled c.self.inside.bytes) c.self.inside.judged c.args.count
    ∙ ap (λ (r : RoomView). room_of (r.judged ++ take c.args.count r.ahead) (drop c.args.count r.ahead)) c.self.view_is
