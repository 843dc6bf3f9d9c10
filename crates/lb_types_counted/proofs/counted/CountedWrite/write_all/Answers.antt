use Rattle.std.proofs.Common.{arith, length-drop}
use Rattle.std.proofs.lemmas.List.{take_rest}
use Rattle.std.proofs.lemmas.Result.{err_from_is_err_and}
use Rattle.lb_types_counted.proofs.Writes.{Appends-take, front_behind}
use Rattle.lb_types_counted.proofs.counted.CountedWrite.write_all.Goals as goal

pub returns-in_err-written-clause-err : goal.returns-in_err-written-clause-err
returns-in_err-written-clause-err g c =
    let p = err_from_is_err_and c.from_residual.result c.from_residual.ensures.1 in
    let fails = rw (take_rest c.args.buf.now c.loop-written.written) at c.in_err-written.ensures.err in
    rw p.1 (front_behind _ _ _ c.args.buf.now c.loop-written.written c.loop-written.invariant.went c.loop-written.invariant.failures fails)

pub loop-written-preserved : goal.loop-written-preserved
loop-written-preserved g c =
    let rest = take_rest c.args.buf.now c.loop-written.written in
    let wrote = rw rest at c.in_ok-written.ensures.ok in
    let fits = rw rest at c.in_ok-written.ensures.fits in
    let before = c.loop-written.invariant.failures in
    let after = wrote.failures in
    record {
      within = omega (arith, length-drop c.loop-written.written c.args.buf.now);
      went = Appends-take _ _ _ c.args.buf.now c.loop-written.written c.in_ok-written.field-0 c.loop-written.invariant.went wrote.whole;
      failures = omega arith;
    }
