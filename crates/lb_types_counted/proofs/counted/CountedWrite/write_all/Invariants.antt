use Rattle.std.proofs.Common.{◌-◌, ◌≤◌, length, take}
use Rattle.std.specs.Io.KnownBytes.{Appends}
use Rattle.lb_types_counted.proofs.counted.CountedWrite.write_all.Given as goal

abbrev pub invariant-loop-written : goal.invariant-loop-written
invariant-loop-written g l = record {
  within : l.written ≤ length l.buf;
  went : Appends l.fn.self.contents l.self.contents (take l.written l.buf);
  failures : l.fn.self.failures ≤ l.self.failures;
}

abbrev pub decreases-loop-written : goal.decreases-loop-written
decreases-loop-written g l = length l.buf - l.written
