use Rattle.std.proofs.Common.{◌≡◌}
use Rattle.lb_replay_lines.proofs.LinesRead.{ReadSoFar}
use Rattle.lb_replay_lines.proofs.script_lines.ScriptLines.read_plan_text.Given as goal

abbrev pub invariant-loop : goal.invariant-loop
invariant-loop g l = record {
  read : ReadSoFar l.fn.self.left l.fn.self l.self;
  first : l.self.first ≡ l.fn.self.first;
}
