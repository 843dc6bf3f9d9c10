use Rattle.command_socket_words.proofs.Lines.{line_again}
use Rattle.command_socket_words.proofs.laws.a_line_says_its_commands.Goals as goal

pub returns : goal.returns
returns c = line_again
