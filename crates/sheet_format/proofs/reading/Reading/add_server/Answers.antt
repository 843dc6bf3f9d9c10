use Rattle.std.proofs.Common.{sym}
use Rattle.sheet_format.proofs.Lawful.{IsKept-server}
use Rattle.sheet_format.proofs.reading.Reading.add_server.Goals as goal

pub invariant_of-self-2 : goal.invariant_of-self-2
invariant_of-self-2 c =
    let is = rw c.deref.ensures.value at (sym c.in_ok-server.ensures.exact) in
    let few = rw c.deref.ensures.value at c.in_ok-server.ensures.few in
    rw c.in_ok-push.ensures.items (IsKept-server _ _ _ _ _ _ c.in_ok-server.server c.self.invariant few is)
