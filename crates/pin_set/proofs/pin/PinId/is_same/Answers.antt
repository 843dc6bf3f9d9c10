use Rattle.pin_set.specs.Names.{names_decide}
use Rattle.pin_set.proofs.pin.PinId.is_same.Goals as goal

pub returns : goal.returns
returns c = rw (c.eq.ensures) (names_decide c.args.self.now c.args.other.now)
