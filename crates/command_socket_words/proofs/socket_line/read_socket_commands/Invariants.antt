use Rattle.std.proofs.Common.{◌≡◌, ◌++◌, length}
use Rattle.lb_types_text.specs.Parts.{parts}
use Rattle.command_socket_words.specs.SocketCommands.{socket_commands_among}
use Rattle.command_socket_words.proofs.socket_line.read_socket_commands.Given as goal

-- the commands so far and those of the texts that are left are all of them
abbrev pub invariant-loop-text : goal.invariant-loop-text
invariant-loop-text l = l.commands.items ++ socket_commands_among l.texts ≡ socket_commands_among (parts 59 l.fn.line)

abbrev pub decreases-loop-text : goal.decreases-loop-text
decreases-loop-text l = length l.texts
