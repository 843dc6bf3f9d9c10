use Rattle.lb_cli_haproxy.proofs.SheetFarms.{one_room, no_room}
use Rattle.lb_cli_haproxy.proofs.sheet_farm.with_room.Goals as goal

pub loop-i-preserved : goal.loop-i-preserved
loop-i-preserved c =
    one_room c.args.share c.args.places.now c.args.bare.now c.loop-i.i c.index-bare-i.result c.server_with-server.result _ _ _
    c.loop-i-test.true c.index-bare-i.is (rw c.new.ensures at c.server_with-server.ensures) c.loop-i.invariant c.in_ok-push.ensures.items

pub returns : goal.returns
returns c = no_room c.args.share c.args.places.now c.args.bare.now c.loop-i.i _ _ c.loop-i-test.false c.loop-i.invariant
