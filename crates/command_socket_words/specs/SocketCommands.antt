-- Commands of the command socket: those that scripts take too, and the ones for the pins of a key, a sheet and a plan that isn't made.
-- `show table B key K`, `clear table B key K` and the first words of `set table B key K` are as in HAProxy's Management Guide 2.8,
-- section 9.3; `server S`, `show sheet` and `dry` are our own.
use Rattle.std.specs.Prelude.{ℕ, nat_lt, filter, map, List, [], ◌∷◌, length, codes, Result, Ok, Err, if◌then◌else◌}
use Rattle.std.specs.Str.{bytes_eq}
use Rattle.lb_types_text.specs.Parts.{parts}
use Rattle.command_socket_words.specs.declared.line.TheConstants.{LONGEST_LINE}
use Rattle.command_socket_words.specs.declared.command.Command.{Command}
use Rattle.command_socket_words.specs.declared.command.Command.TheVariants.{Plan, Show}
use Rattle.command_socket_words.specs.declared.command.Shown.TheVariants as shown
use Rattle.command_socket_words.specs.declared.socket_command.SocketCommand.{SocketCommand}
use Rattle.command_socket_words.specs.declared.socket_command.SocketCommand.TheVariants.{Plain, ShowKey, ClearKey, SetKey, ShowSheet, PlanDry}
use Rattle.command_socket_words.specs.declared.fault.CommandFault.{CommandFault}
use Rattle.command_socket_words.specs.declared.fault.CommandFault.TheVariants.{UnknownCommand, MissingWord}
use Rattle.command_socket_words.specs.Faults.{◌>>=◌}
use Rattle.command_socket_words.specs.Values.{name_in}
use Rattle.command_socket_words.specs.Words.{Word, is_filled, words_in, at_end, last, behind}
use Rattle.command_socket_words.specs.Commands.{command_of, set_of, show_of}

-- a command that scripts take too
abbrev pub plainly : Result Command CommandFault → Result SocketCommand CommandFault
plainly read = read >>= λ command. Ok (Plain command)

-- any word may stand for a key
abbrev pub key_in : Word → Result Word CommandFault
key_in word = Ok word

-- `key K`
unfoldable pub key_of : List Word → Result Word CommandFault
key_of words = behind (codes "key") (last key_in) words

-- `B key K`
unfoldable pub keyed_of : List Word → Result (List ℕ × Word) CommandFault
keyed_of [] = Err MissingWord
keyed_of (word ∷ more) = do
  backend ← name_in word
  key ← key_of more
  Ok (backend, key)

-- what stands behind `clear`
unfoldable pub clear_of : List Word → Result SocketCommand CommandFault
clear_of words = behind (codes "table") keyed_of words >>= λ x. Ok (ClearKey x.0 x.1)

-- `K server S`
unfoldable pub placed_of : List Word → Result (Word × List ℕ) CommandFault
placed_of [] = Err MissingWord
placed_of (word ∷ more) = do
  server ← behind (codes "server") (last name_in) more
  Ok (word, server)

-- what stands behind `set table`
unfoldable pub set_table_of : List Word → Result SocketCommand CommandFault
set_table_of [] = Err MissingWord
set_table_of (word ∷ more) = do
  backend ← name_in word
  x ← behind (codes "key") placed_of more
  Ok (SetKey (record { backend = backend; server = x.1 }) x.0)

-- what stands behind `set`
unfoldable pub socket_set_of : List Word → Result SocketCommand CommandFault
socket_set_of [] = Err MissingWord
socket_set_of (word ∷ more) = if bytes_eq word (codes "table") then set_table_of more else plainly (set_of (word ∷ more))

-- what stands behind `show table B`: nothing, or `key K`
unfoldable pub rows_of : List ℕ → List Word → Result SocketCommand CommandFault
rows_of backend [] = Ok (Plain (Show shown.Table backend))
rows_of backend (word ∷ more) = key_of (word ∷ more) >>= λ key. Ok (ShowKey backend key)

-- what stands behind `show table`
unfoldable pub show_table_of : List Word → Result SocketCommand CommandFault
show_table_of [] = Err MissingWord
show_table_of (word ∷ more) = name_in word >>= λ backend. rows_of backend more

-- what stands behind `show`
unfoldable pub socket_show_of : List Word → Result SocketCommand CommandFault
socket_show_of [] = Err MissingWord
socket_show_of (word ∷ more) =
    if bytes_eq word (codes "table") then show_table_of more
    else if bytes_eq word (codes "sheet") then (last name_in more >>= λ backend. Ok (ShowSheet backend))
    else plainly (show_of (word ∷ more))

-- what stands behind `plan backend B`: nothing, or `dry`
unfoldable pub dry_of : List ℕ → List Word → Result SocketCommand CommandFault
dry_of backend [] = Ok (Plain (Plan backend))
dry_of backend (word ∷ more) = behind (codes "dry") at_end (word ∷ more) >>= λ _. Ok (PlanDry backend)

-- what stands behind `plan backend`
unfoldable pub plan_backend_of : List Word → Result SocketCommand CommandFault
plan_backend_of [] = Err MissingWord
plan_backend_of (word ∷ more) = name_in word >>= λ backend. dry_of backend more

-- the command that the words say, or their first fault
unfoldable pub socket_command_of : List Word → Result SocketCommand CommandFault
socket_command_of [] = Err MissingWord
socket_command_of (word ∷ more) =
    if bytes_eq word (codes "set") then socket_set_of more
    else if bytes_eq word (codes "clear") then clear_of more
    else if bytes_eq word (codes "show") then socket_show_of more
    else if bytes_eq word (codes "plan") then behind (codes "backend") plan_backend_of more
    else plainly (command_of (word ∷ more))

-- the commands and faults of what stands between semicolons. What has no word is passed over
unfoldable pub socket_commands_among : List (List ℕ) → List (Result SocketCommand CommandFault)
socket_commands_among texts = map socket_command_of (filter is_filled (map words_in texts))

-- the commands and faults of a line, in order. A line of more than 4096 bytes is one fault
unfoldable pub socket_commands_of : List ℕ → List (Result SocketCommand CommandFault)
socket_commands_of line =
    if nat_lt LONGEST_LINE (length line) then Err UnknownCommand ∷ [] else socket_commands_among (parts 59 line)
