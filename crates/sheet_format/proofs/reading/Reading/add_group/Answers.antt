use Rattle.std.proofs.Common.{sym}
use Rattle.sheet_format.proofs.Lawful.{IsKept-group, group_found}
use Rattle.sheet_format.proofs.reading.Reading.add_group.Goals as goal

pub invariant_of-self-in-Ok : goal.invariant_of-self-in-Ok
invariant_of-self-in-Ok c =
    let is = rw c.deref.ensures.value at (sym c.in-Ok.ensures.exact) in
    let lawful = group_found _ _ _ _ c.in-Ok.group is in
    rw (c.in_ok-push-in-Ok.ensures.ok, c.from.ensures) (IsKept-group _ _ _ _ c.in-Ok.group c.self.invariant lawful c.in-Ok.ensures.fits)
