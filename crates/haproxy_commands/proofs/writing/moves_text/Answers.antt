use Rattle.std.proofs.lemmas.List.Elements.{All-nil, All-more}
use Rattle.haproxy_commands.specs.Writing.{IsMove}
use Rattle.haproxy_commands.proofs.Pushes.{text_more, text_none}
use Rattle.haproxy_commands.proofs.writing.moves_text.Goals as goal

pub loop-entry-init : goal.loop-entry-init
loop-entry-init c = record { lines = rw c.new-text.ensures.items (text_none _); small = All-nil IsMove }

pub loop-entry-preserved : goal.loop-entry-preserved
loop-entry-preserved c = record {
  lines = rw c.in_ok-push_line.ensures.line (text_more _ _ _ _ _ c.loop-entry-test.true c.loop-entry.invariant.lines);
  small = All-more IsMove _ _ _ c.loop-entry-test.true c.loop-entry.invariant.small c.in_ok-push_line.ensures.small;
}
