-- Commands of the command socket with what they name. Names are looked up before anything is done.
use Rattle.std.specs.Prelude.{Result, Ok, Err}
use Rattle.command_socket_words.specs.declared.fault.CommandFault.{CommandFault}
use Rattle.command_socket_words.specs.declared.socket_command.SocketCommand.{SocketCommand}
use Rattle.command_socket_words.specs.declared.socket_command.SocketCommand.TheVariants as Says
use Rattle.lb_config.specs.ConfigViews.{ConfigView}
use Rattle.lb_config.specs.Finds.{find_backend, find_server}
use Rattle.command_socket.specs.Resolved.{found_as, resolved}
use Rattle.command_socket.specs.declared.resolved.Resolved.{Resolved}
use Rattle.command_socket.specs.declared.socket.BackendTask.TheVariants as Task
use Rattle.command_socket.specs.declared.socket.PinChange.TheVariants as Pins
use Rattle.command_socket.specs.declared.socket.SocketResolved.{SocketResolved}
use Rattle.command_socket.specs.declared.socket.SocketResolved.TheVariants as Is

-- a command that scripts take too
abbrev pub plain : Result Resolved CommandFault → Result SocketResolved CommandFault
plain (Ok found) = Ok (Is.Plain found)
plain (Err fault) = Err fault

-- the command with its backend and its server
unfoldable pub socket_resolved : ConfigView → SocketCommand → Result SocketResolved CommandFault
socket_resolved config (Says.Plain command) = plain (resolved config command)
socket_resolved config (Says.ShowKey name key) = found_as (λ backend. Is.Asked backend (Task.ShowKey key)) (find_backend config.backends name)
socket_resolved config (Says.ClearKey name key) =
    found_as (λ backend. Is.Asked backend (Task.ChangeKey key Pins.Clear)) (find_backend config.backends name)
socket_resolved config (Says.SetKey name key) =
    found_as (λ found. Is.Asked found.0 (Task.ChangeKey key (Pins.Set found.1))) (find_server config.backends name.backend name.server)
socket_resolved config (Says.ShowSheet name) = found_as (λ backend. Is.Asked backend Task.ShowSheet) (find_backend config.backends name)
socket_resolved config (Says.PlanDry name) = found_as (λ backend. Is.Asked backend Task.PlanDry) (find_backend config.backends name)
