use Rattle.lb_desk_law.proofs.SetPins.{set_pins_are_kept}
use Rattle.lb_desk_law.proofs.laws.a_pin_that_was_set_is_kept.Goals as goal

pub returns : goal.returns
returns c = set_pins_are_kept
