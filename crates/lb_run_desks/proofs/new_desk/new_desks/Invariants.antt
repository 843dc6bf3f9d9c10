use Rattle.std.proofs.Common.{take}
use Rattle.lb_run_desks.specs.NewDesks.{Open}
use Rattle.lb_run_desks.proofs.new_desk.new_desks.Given as goal

-- the desks of the backends so far
abbrev pub invariant-loop-config : goal.invariant-loop-config
invariant-loop-config l = Open (take l.config-index l.backends) l.desks.items
