use Rattle.command_socket_serve.proofs.Printings.{prints_sent}
use Rattle.command_socket_serve.proofs.printing.print_text.Goals as goal

pub returns : goal.returns
returns g c = prints_sent _ _ _ _ _ c.send.ensures
