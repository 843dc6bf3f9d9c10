use Rattle.std.proofs.Common.{◌≡◌, length}
use Rattle.lb_desk_step.specs.Desk.{StandsAt}
use Rattle.lb_desk_step.specs.Worlds.{entries_of}
use Rattle.lb_desk_step.proofs.world.run_world.Given as goal

abbrev pub invariant-loop-event : goal.invariant-loop-event
invariant-loop-event g l =
    (length l.replies.items ≡ length l.yielded) × StandsAt l.fn.backend (entries_of l.yielded l.replies.items) l.desk
