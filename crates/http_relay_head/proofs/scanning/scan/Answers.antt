use Rattle.std.proofs.Common.{inl}
use Rattle.http_relay_head.proofs.Requests.{too_long}
use Rattle.http_relay_head.proofs.scanning.scan.Goals as goal

pub returns-else-bytes-lt-HEAD_ROOM : goal.returns-else-bytes-lt-HEAD_ROOM
returns-else-bytes-lt-HEAD_ROOM c =
    let none = rw c.in-Ok-Partial.field-0-is at c.in-Ok-Partial.ensures.partial in
    (too_long _ none c.if-bytes-lt-HEAD_ROOM.false, inl c.if-bytes-lt-HEAD_ROOM.false)
