-- The table of commands of the command socket: the words that say each one.
use Rattle.std.specs.Prelude.{◌≡◌, true, List, [], ◌∷◌, codes}
use Rattle.lb_types.specs.Names.{is_name}
use Rattle.command_socket_words.specs.declared.socket_command.SocketCommand.{SocketCommand}
use Rattle.command_socket_words.specs.declared.socket_command.SocketCommand.TheVariants.{Plain, ShowKey, ClearKey, SetKey, ShowSheet, PlanDry}
use Rattle.command_socket_words.specs.Meanings.{IsCommand, Says}
use Rattle.command_socket_words.specs.Words.{Word}

-- the words say the command
abbrev pub SocketSays : List Word → SocketCommand → Type 0
SocketSays words (Plain command) = Says words command
SocketSays words (ShowKey backend key) = words ≡ codes "show" ∷ codes "table" ∷ backend ∷ codes "key" ∷ key ∷ []
SocketSays words (ClearKey backend key) = words ≡ codes "clear" ∷ codes "table" ∷ backend ∷ codes "key" ∷ key ∷ []
SocketSays words (SetKey server key) =
    words ≡ codes "set" ∷ codes "table" ∷ server.backend ∷ codes "key" ∷ key ∷ codes "server" ∷ server.server ∷ []
SocketSays words (ShowSheet backend) = words ≡ codes "show" ∷ codes "sheet" ∷ backend ∷ []
SocketSays words (PlanDry backend) = words ≡ codes "plan" ∷ codes "backend" ∷ backend ∷ codes "dry" ∷ []

-- a command as the program has it: its names are names, and 64 bits hold its number
abbrev pub IsSocketCommand : SocketCommand → Type 0
IsSocketCommand (Plain command) = IsCommand command
IsSocketCommand (ShowKey backend key) = is_name backend ≡ true
IsSocketCommand (ClearKey backend key) = is_name backend ≡ true
IsSocketCommand (SetKey server key) = (is_name server.backend ≡ true) × (is_name server.server ≡ true)
IsSocketCommand (ShowSheet backend) = is_name backend ≡ true
IsSocketCommand (PlanDry backend) = is_name backend ≡ true
