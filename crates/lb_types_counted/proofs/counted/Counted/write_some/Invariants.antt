use Rattle.std.proofs.Common.{◌^◌, ◌-◌, ◌<◌, ◌≤◌, []}
use Rattle.std.specs.Io.KnownBytes.{Appends}
use Rattle.lb_types_counted.proofs.counted.Counted.write_some.Given as goal

abbrev pub invariant-loop : goal.invariant-loop
invariant-loop g l = record {
  nothing : Appends l.fn.self.contents l.self.contents [];
  kept : l.fn.self.failures ≤ l.self.failures;
  more : 0 < l.counter → l.fn.self.failures < 2 ^ 64 - 1 → l.fn.self.failures < l.self.failures;
}
