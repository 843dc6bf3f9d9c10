use Rattle.std.proofs.Common.{◌≡◌, ◌+◌, true, false, length, drop, ◌∙◌, sym, rules}
use Rattle.std.proofs.lemmas.List.{take_rest}
use Rattle.lb_replay_lines.specs.Lines.{is_end}
use Rattle.lb_replay_lines.proofs.LinesRead.{so_far_more}
use Rattle.lb_replay_lines.proofs.script_lines.ScriptLines.read_plan_text.Goals as goal

pub loop-preserved : goal.loop-preserved
loop-preserved g c =
    let has_line : c.in_ok-add_line.field-0 ≡ true = search rules in
    let count : c.add_line.new.self.count ≡ c.loop.self.count + 1 = rw has_line at c.in_ok-add_line.ensures.count in
    let line : drop c.len-start.result c.deref.result.now ≡ drop (length c.loop.self.piece) c.add_line.new.self.piece = search rules in
    let goes_on : is_end (drop (length c.loop.self.piece) c.add_line.new.self.piece) ≡ false =
    rw (take_rest c.deref.result.now c.len-start.result, line) at (sym c.is_end.ensures ∙ c.if-is_end.false) in
    record {
      read = so_far_more c.args.self.now.left c.args.self.now c.loop.self c.add_line.new.self c.loop.invariant.read (c.in_ok-add_line.ensures.line has_line) count goes_on;
      first = c.in_ok-add_line.ensures.first ∙ c.loop.invariant.first;
    }
