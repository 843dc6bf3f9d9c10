use Rattle.std.proofs.Common.{◌≡◌, ◌∙◌, refl, arith}
use Rattle.lb_desk_evacuate.proofs.Trying.{none_failed, one_failed_more, done_in_a_try, done_now, refused_in_a_try, refused_now, no_try}
use Rattle.lb_desk_evacuate.proofs.evacuating.evacuate.Goals as goal

pub loop-init : goal.loop-init
loop-init g c = record { failed = none_failed (g.M.Mover.entries c.args.mover.now); within = omega arith; planned = refl; refusals = refl; backend = refl }

pub returns-in-Installed-clause-evacuates : goal.returns-in-Installed-clause-evacuates
returns-in-Installed-clause-evacuates g c =
    let entries = g.M.Mover.entries in
    let planned = g.M.Mover.planned_now in
    done_in_a_try c.args.tries c.loop.counter c.in-Ok.answer c.in-Installed.score (entries c.args.mover.now) (entries c.loop.mover)
    (entries c.try_once.new.mover) (planned c.args.mover.now) (planned c.try_once.new.mover)
    c.loop.invariant.failed c.loop-test.true c.in-Installed.is c.in-Ok.ensures.entries (c.in-Ok.ensures.planned_now ∙ c.loop.invariant.planned)

pub loop-preserved : goal.loop-preserved
loop-preserved g c =
    let entries = g.M.Mover.entries in record {
      failed = one_failed_more c.loop.counter c.in-Ok.answer (entries c.args.mover.now) (entries c.loop.mover) (entries c.try_once.new.mover)
          c.loop.invariant.failed c.in-Ok.ensures.entries c.in_default.not-Installed;
      within = omega (arith, c.loop-test.true);
      planned = c.in-Ok.ensures.planned_now ∙ c.loop.invariant.planned;
      refusals = c.in-Ok.ensures.refusals ∙ c.loop.invariant.refusals;
      backend = c.in-Ok.ensures.backend ∙ c.loop.invariant.backend;
    }
