use Rattle.std.proofs.Common.{◌≡◌, ◌++◌, take}
use Rattle.haproxy_commands.specs.Writing.{command_text, words_of}
use Rattle.haproxy_commands.proofs.writing.push_command.Given as goal

abbrev pub invariant-loop-word : goal.invariant-loop-word
invariant-loop-word l = l.text.items ≡ l.fn.text.items ++ command_text (words_of l.fn.first (take l.word-index l.more))
