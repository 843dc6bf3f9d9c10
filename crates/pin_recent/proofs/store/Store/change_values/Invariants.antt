use Rattle.std.proofs.Common.{◌≡◌}
use Rattle.pin_recent.specs.Sound.{bare, numbers}
use Rattle.pin_recent.proofs.Changes.{Passing}
use Rattle.pin_recent.proofs.store.Store.change_values.Given as goal

-- the pairs so far were asked for, and nothing else has changed
abbrev pub invariant-loop-place : goal.invariant-loop-place
invariant-loop-place g l = record {
  passing : Passing g.C.Change.accepts g.C.Change.changes l.fn.change (bare l.fn.self.map.entries) l.place l.change (bare l.self.map.entries);
  numbers : numbers l.self.map.entries ≡ numbers l.fn.self.map.entries;
  log : l.self.log ≡ l.fn.self.log;
}
