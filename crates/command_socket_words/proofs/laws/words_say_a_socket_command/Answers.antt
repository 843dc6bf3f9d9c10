use Rattle.command_socket_words.proofs.SocketSayings.{said_to_socket}
use Rattle.command_socket_words.proofs.laws.words_say_a_socket_command.Goals as goal

pub returns : goal.returns
returns c = said_to_socket
