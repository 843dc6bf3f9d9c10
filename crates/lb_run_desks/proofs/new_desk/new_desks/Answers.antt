use Rattle.std.proofs.Common.{◌++◌, ◌∷◌, ◌+◌, [], sym, subst, take}
use Rattle.lb_run_desks.specs.NewDesks.{Open}
use Rattle.lb_run_desks.proofs.Opening.{Open-more}
use Rattle.lb_run_desks.proofs.new_desk.new_desks.Goals as goal

pub loop-config-preserved : goal.loop-config-preserved
loop-config-preserved c =
    subst (λ desks. Open (take (c.loop-config.config-index + 1) c.args.backends.now) desks) (sym c.in_ok-push.ensures.items)
    (Open-more c.loop-config.config-index c.args.backends.now c.loop-config.desks.items c.config-item.result c.in_ok-open.field-0
    c.loop-config-test.true c.config-item.is c.loop-config.invariant c.in_ok-open.ensures)
