-- Commands with what they name: HAProxy Management Guide 2.8, section 9.3. Names are looked up before anything is done.
use Rattle.std.specs.Prelude.{Bool, true, false, Option, Some, None, Result, Ok, Err}
use Rattle.command_socket_words.specs.declared.command.Command.{Command}
use Rattle.command_socket_words.specs.declared.command.Command.TheVariants as Says
use Rattle.command_socket_words.specs.declared.fault.CommandFault.{CommandFault}
use Rattle.command_socket_words.specs.declared.fault.CommandFault.TheVariants as Told
use Rattle.lb_config.specs.ConfigViews.{ConfigView}
use Rattle.lb_config.specs.Finds.{find_backend, find_server}
use Rattle.lb_config.specs.declared.find.FindFault.{FindFault}
use Rattle.lb_config.specs.declared.find.FindFault.TheVariants.{NoBackend, NoSuchServer}
use Rattle.server_state.specs.declared.change.Change.{Change}
use Rattle.command_socket.specs.declared.resolved.Resolved.{Resolved}
use Rattle.command_socket.specs.declared.resolved.Resolved.TheVariants as Is

-- the command changes a server
abbrev pub is_change : Command → Bool
is_change (Says.Set name setting) = true
is_change _ = false

abbrev pub command_fault : FindFault → CommandFault
command_fault NoBackend = Told.NoBackend
command_fault NoSuchServer = Told.NoSuchServer

-- what the command is where its names were found
abbrev pub found_as : {A B : Type 0} → (A → B) → Result A FindFault → Result B CommandFault
found_as command (Ok found) = Ok (command found)
found_as command (Err fault) = Err (command_fault fault)

-- what a command that changes a server changes
unfoldable pub change_in : ConfigView → Command → Option (Result Change CommandFault)
change_in config (Says.Set name setting) =
    Some (found_as (λ found. record { server = found.1; setting = setting }) (find_server config.backends name.backend name.server))
change_in config command = None

-- the command with its backend and its server
unfoldable pub resolved : ConfigView → Command → Result Resolved CommandFault
resolved config (Says.Set name setting) =
    found_as (λ found. Is.Change found.0 (record { server = found.1; setting = setting })) (find_server config.backends name.backend name.server)
resolved config (Says.Plan name) = found_as (λ backend. Is.Plan backend) (find_backend config.backends name)
resolved config (Says.Show what name) = found_as (λ backend. Is.Show what backend) (find_backend config.backends name)
resolved config Says.Stop = Ok Is.Stop
