use Rattle.lb_types_counted.proofs.Writes.{Appends-kept, Appends-then, one_more-Rises, ≤-Rises, counts_nothing_taken, front_of_nothing}
use Rattle.lb_types_counted.specs.Writers.{Rises}
use Rattle.lb_types_counted.proofs.counted.Counted.write_some.Goals as goal

pub returns-in-Ok-eq0-clause-err : goal.returns-in-Ok-eq0-clause-err
returns-in-Ok-eq0-clause-err g c =
    let counted = counts_nothing_taken c.loop.self.failures c.write.new.self.failures c.in-Ok-eq0.field-0 c.args.bytes.now c.in-Ok-eq0.field-0-test c.requires c.in-Ok-eq0.ensures.failures in
    front_of_nothing _ _ _ _ c.loop.invariant.nothing (rw c.in-Ok-eq0.field-0-test at c.in-Ok-eq0.ensures.bytes) c.loop.invariant.kept counted

pub returns-then-ne-clause-err : goal.returns-then-ne-clause-err
returns-then-ne-clause-err g c =
    front_of_nothing _ _ _ _ c.loop.invariant.nothing (Appends-kept _ _ c.in-Err.ensures.bytes) c.loop.invariant.kept c.in-Err.ensures.failures

pub loop-preserved : goal.loop-preserved
loop-preserved g c =
    let rises : Rises c.args.self.now.failures c.write.new.self.failures = ≤-Rises _ _ _ c.loop.invariant.kept (one_more-Rises _ _ c.in-Err.ensures.failures) in
    record {
      nothing = Appends-then _ _ _ _ _ c.loop.invariant.nothing (Appends-kept _ _ c.in-Err.ensures.bytes);
      kept = rises.kept;
      more = λ _ small. rises.more small;
    }
