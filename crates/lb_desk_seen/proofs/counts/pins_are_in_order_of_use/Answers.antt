use Rattle.lb_desk_seen.proofs.LastUses.{pins_are_in_order_of_use}
use Rattle.lb_desk_seen.proofs.counts.pins_are_in_order_of_use.Goals as goal

pub returns : goal.returns
returns c = pins_are_in_order_of_use
