use Rattle.command_socket_serve.specs.Desks.{desk_seen}
use Rattle.command_socket_serve.proofs.Changing.{says_more, says_none}
use Rattle.command_socket_serve.proofs.pins.change_each.Goals as goal

pub loop-kept-init : goal.loop-kept-init
loop-kept-init g c =
    says_none c.args.named.now c.args.change.now c.args.moment c.args.out.now c.args.sent
    (desk_seen g.S.Mover.entries g.S.Mover.planned_now g.S.Mover.backend g.S.Steer.sights c.args.desk.now)

pub loop-kept-preserved : goal.loop-kept-preserved
loop-kept-preserved g c =
    let seen = desk_seen g.S.Mover.entries g.S.Mover.planned_now g.S.Mover.backend g.S.Steer.sights in
    says_more c.args.named.now c.args.change.now c.args.moment c.args.pins.now c.loop-kept.kept-index _ (seen c.args.desk.now) (seen c.loop-kept.desk) _
    c.args.out.now c.loop-kept.out _ c.args.sent c.loop-kept.printed _ c.loop-kept-test.true c.kept-item.is c.loop-kept.invariant
    c.change_pin-printed.ensures
