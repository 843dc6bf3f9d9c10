use Rattle.std.proofs.Common.{◌≡◌, take}
use Rattle.std.specs.List.{All}
use Rattle.haproxy_commands.specs.Writing.{IsMove, text_of}
use Rattle.haproxy_commands.proofs.writing.moves_text.Given as goal

abbrev pub invariant-loop-entry : goal.invariant-loop-entry
invariant-loop-entry l = record {
  lines : l.text.items ≡ text_of l.table (take l.entry-index l.moves);
  small : All IsMove (take l.entry-index l.moves);
}
