use Rattle.std.proofs.Common.{◌≡◌, ◌++◌, take}
use Rattle.haproxy_commands.specs.Writing.{spelled}
use Rattle.haproxy_commands.proofs.writing.push_word.Given as goal

abbrev pub invariant-loop-byte : goal.invariant-loop-byte
invariant-loop-byte l = l.text.items ≡ l.fn.text.items ++ spelled (take l.byte-index l.word)
