use Rattle.std.proofs.Common.{arith}
use Rattle.std.proofs.lemmas.Grind.{common_steps}
use Rattle.check_workers_round.proofs.Firsts.{found_stays, found_changes, none_found}
use Rattle.check_workers_round.proofs.check.first_due.Goals.{then-not-is_under_way+then-is_sooner, else-not-is_under_way, else-not-is_under_way-via-then-not-is_under_way+else-is_sooner, else-not-is_under_way-via-else-not-is_under_way}
use Rattle.check_workers_round.proofs.check.first_due.Goals as goal

pub loop-place-preserved : goal.loop-place-preserved
loop-place-preserved g c =
    let u = g.P.Probes.under_way c.args.probes.now in
    let checks = c.args.checks.now in
    let here = c.loop-place in
    let check = c.index-checks-place.result in
    record {
      found = elim c.if-not-is_under_way.branch [
        | then-not-is_under_way+then-is_sooner w ↦ rw w.found-is
            (found_changes u checks here.place check here.found c.loop-place-test.true c.index-checks-place.is here.invariant.found
            (grind (arith, common_steps, c.is_under_way.ensures, w.if-not-is_under_way))
            (grind (arith, common_steps, w.is_sooner.ensures, w.if-is_sooner)))
        | else-not-is_under_way w ↦ rw w.found-is
            (found_stays u checks here.place check here.found c.loop-place-test.true c.index-checks-place.is here.invariant.found
            (elim w.else-not-is_under_way.branch [
              | else-not-is_under_way-via-then-not-is_under_way+else-is_sooner v ↦ λ free. grind (arith, common_steps, v.is_sooner.ensures, v.if-is_sooner)
              | else-not-is_under_way-via-else-not-is_under_way v ↦ λ free. grind (arith, common_steps, free, c.is_under_way.ensures, v.if-not-is_under_way)
            ]))
      ];
      within = omega (arith, c.loop-place-test.true);
    }

pub returns-clause-none : goal.returns-clause-none
returns-clause-none g c =
    none_found (g.P.Probes.under_way c.args.probes.now) c.args.checks.now c.loop-place.place c.loop-place.found (omega (arith, c.loop-place-test.false)) c.loop-place.invariant.found
