-- Operators' commands, after HAProxy's Management Guide 2.8, section 9.3 (`enable server`, `disable server`, `set server`,
-- `set weight`, `set maxconn server`, `show table`). `set maxpins`, `plan`, `show plan`, `show journal` and `stop` are our own.
use Rattle.std.specs.Prelude.{ℕ, nat_lt, filter, map, List, [], ◌∷◌, length, codes, Result, Ok, Err, if◌then◌else◌}
use Rattle.std.specs.Str.{bytes_eq}
use Rattle.lb_types_text.specs.Parts.{parts}
use Rattle.server_state.specs.declared.settings.AdminState.{AdminState}
use Rattle.server_state.specs.declared.settings.AdminState.TheVariants.{Ready, Maint}
use Rattle.server_state.specs.declared.change.Setting.TheVariants.{Admin, Weight, MaxConnections, MaxPins}
use Rattle.command_socket_words.specs.declared.line.TheConstants.{LONGEST_LINE}
use Rattle.command_socket_words.specs.declared.command.ServerName.{ServerName}
use Rattle.command_socket_words.specs.declared.command.Shown.{Shown}
use Rattle.command_socket_words.specs.declared.command.Shown.TheVariants as shown
use Rattle.command_socket_words.specs.declared.command.Command.{Command}
use Rattle.command_socket_words.specs.declared.command.Command.TheVariants.{Set, Plan, Show, Stop}
use Rattle.command_socket_words.specs.declared.fault.CommandFault.{CommandFault}
use Rattle.command_socket_words.specs.declared.fault.CommandFault.TheVariants.{UnknownCommand, MissingWord}
use Rattle.command_socket_words.specs.Faults.{◌>>=◌}
use Rattle.command_socket_words.specs.Settings.{setting_of}
use Rattle.command_socket_words.specs.Values.{name_in, server_in, number_in}
use Rattle.command_socket_words.specs.Words.{Word, is_filled, words_in, at_end, last, behind}

-- `server b/s`, to be set so
unfoldable pub switch_of : AdminState → List Word → Result Command CommandFault
switch_of state words = behind (codes "server") (last server_in) words >>= λ server. Ok (Set server (Admin state))

-- `b/s n`: a server, and a number for it
unfoldable pub numbered_of : List Word → Result (ServerName × ℕ) CommandFault
numbered_of [] = Err MissingWord
numbered_of (word ∷ more) = do
  server ← server_in word
  n ← last number_in more
  Ok (server, n)

-- `server b/s n`
unfoldable pub server_numbered_of : List Word → Result (ServerName × ℕ) CommandFault
server_numbered_of words = behind (codes "server") numbered_of words

-- what stands behind `set server`
unfoldable pub set_server_of : List Word → Result Command CommandFault
set_server_of [] = Err MissingWord
set_server_of (word ∷ more) = do
  server ← server_in word
  setting ← setting_of more
  Ok (Set server setting)

-- what stands behind `set`
unfoldable pub set_of : List Word → Result Command CommandFault
set_of [] = Err MissingWord
set_of (word ∷ more) =
    if bytes_eq word (codes "server") then set_server_of more
    else if bytes_eq word (codes "weight") then (numbered_of more >>= λ x. Ok (Set x.0 (Weight x.1)))
    else if bytes_eq word (codes "maxconn") then (server_numbered_of more >>= λ x. Ok (Set x.0 (MaxConnections x.1)))
    else if bytes_eq word (codes "maxpins") then (server_numbered_of more >>= λ x. Ok (Set x.0 (MaxPins x.1)))
    else Err UnknownCommand

-- `plan`, `table` or `journal`
unfoldable pub shown_in : Word → Result Shown CommandFault
shown_in word =
    if bytes_eq word (codes "plan") then Ok shown.Plan
    else if bytes_eq word (codes "table") then Ok shown.Table
    else if bytes_eq word (codes "journal") then Ok shown.Journal
    else Err UnknownCommand

-- what stands behind `show`
unfoldable pub show_of : List Word → Result Command CommandFault
show_of [] = Err MissingWord
show_of (word ∷ more) = do
  what ← shown_in word
  backend ← last name_in more
  Ok (Show what backend)

-- what stands behind `plan`
unfoldable pub plan_of : List Word → Result Command CommandFault
plan_of words = behind (codes "backend") (last name_in) words >>= λ backend. Ok (Plan backend)

-- the command that the words say, or their first fault
unfoldable pub command_of : List Word → Result Command CommandFault
command_of [] = Err MissingWord
command_of (word ∷ more) =
    if bytes_eq word (codes "set") then set_of more
    else if bytes_eq word (codes "enable") then switch_of Ready more
    else if bytes_eq word (codes "disable") then switch_of Maint more
    else if bytes_eq word (codes "plan") then plan_of more
    else if bytes_eq word (codes "show") then show_of more
    else if bytes_eq word (codes "stop") then (at_end more >>= λ _. Ok Stop)
    else Err UnknownCommand

-- the commands and faults of what stands between semicolons. What has no word is passed over
unfoldable pub commands_among : List (List ℕ) → List (Result Command CommandFault)
commands_among texts = map command_of (filter is_filled (map words_in texts))

-- the commands and faults of a line, in order. A line of more than 4096 bytes is one fault
unfoldable pub commands_of : List ℕ → List (Result Command CommandFault)
commands_of line =
    if nat_lt LONGEST_LINE (length line) then Err UnknownCommand ∷ [] else commands_among (parts 59 line)
