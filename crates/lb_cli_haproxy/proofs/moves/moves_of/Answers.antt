use Rattle.std.proofs.Common.{refl, arith}
use Rattle.lb_cli_haproxy.specs.Moves.{said_by}
use Rattle.lb_cli_haproxy.proofs.Moving.{one_more, none_left}
use Rattle.lb_cli_haproxy.proofs.moves.moves_of.Goals as goal

pub loop-i-init : goal.loop-i-init
unfolding said_by
loop-i-init c = rw c.new-moves.ensures.items refl

pub loop-i-preserved : goal.loop-i-preserved
loop-i-preserved c =
    one_more _ _ _ c.loop-i.i c.index-clients-i.result c.index-places-i.result _ _ _ c.loop-i-test.true (omega (arith, c.requires, c.loop-i-test.true))
    c.index-clients-i.is c.index-places-i.is c.loop-i.invariant c.in_ok-add_move.ensures

pub returns : goal.returns
returns c = none_left _ _ _ c.loop-i.i _ _ c.loop-i-test.false c.loop-i.invariant
