use Rattle.command_socket_words.proofs.Found.{command_found}
use Rattle.command_socket_words.proofs.Sayings.{said_again}
use Rattle.command_socket_words.proofs.laws.words_say_a_command.Goals as goal

pub returns : goal.returns
returns c = record { found = command_found; only = said_again }
