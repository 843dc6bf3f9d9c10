use Rattle.std.proofs.Common.{arith}
use Rattle.lb_desk_tie.proofs.Moves.{looks_as}
use Rattle.lb_desk_tie.proofs.steps.settle.Goals as goal

pub load-requires : goal.load-requires
load-requires g c =
    let old = c.args.seat.now.me.0 in
    (c.requires.table, omega (arith, c.requires.one_word), looks_as _ _ c.args.seat.now.me old.history old.passes old.lists old.sights c.requires.keeper)

pub returns : goal.returns
returns g c = record { passes = (c.load.ensures.2.2 c.requires.all).0; share = (c.load.ensures.2.2 c.requires.all).1; sights = c.load.ensures.2.1 }
