use Rattle.lb_desk_law.proofs.SetPins.{set_pins_make_the_table}
use Rattle.lb_desk_law.proofs.laws.pins_that_are_set_make_the_table.Goals as goal

pub returns : goal.returns
returns c = set_pins_make_the_table
