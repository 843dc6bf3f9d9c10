use Rattle.std.proofs.Common.{arith, ◌∙◌}
use Rattle.check_workers_targets.proofs.Checked.{checks_more}
use Rattle.check_workers_targets.proofs.checks.checks_among.Goals as goal

pub loop-place-preserved : goal.loop-place-preserved
loop-place-preserved c = record {
  checks = c.in_ok-push_check.ensures
      ∙ checks_more c.args.servers.now c.loop-place.place c.index-servers-place.result c.loop-place.checks.items c.loop-place-test.true c.index-servers-place.is
      c.loop-place.invariant.checks;
  within = omega (arith, c.loop-place-test.true);
}
