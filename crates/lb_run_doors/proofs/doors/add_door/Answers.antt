use Rattle.std.proofs.Common.{ap}
use Rattle.lb_run_doors.specs.Doors.{DoorView}
use Rattle.lb_run_doors.proofs.Taken.{keeps_all_made}
use Rattle.lb_run_doors.proofs.doors.add_door.Goals as goal

pub returns-clause-handed : goal.returns-clause-handed
returns-clause-handed g c =
    keeps_all_made c.take_at-handed.result c.args.endpoint c.args.waiting.now.items c.take_at-handed.new.sockets.items c.args.doors.now.items
    c.push.new.self.items c.in_ok-open.field-0 c.take_at-handed.ensures.at c.take_at-handed.ensures.others c.take_at-handed.ensures.none
    c.in_ok-open.ensures.over (ap (λ (view : DoorView). view.endpoint) c.in_ok-open.ensures.view) c.in_ok-push.ensures.items
