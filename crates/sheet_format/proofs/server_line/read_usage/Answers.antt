use Rattle.std.proofs.Common.{sym}
use Rattle.sheet_format.proofs.Lines.{largest_room}
use Rattle.sheet_format.proofs.server_line.read_usage.Goals as goal

pub returns-in_default : goal.returns-in_default
returns-in_default c = rw c.in_default.ensures.none.0 (sym largest_room)
