-- What a word means where a name, a server or a number is due.
use Rattle.std.specs.Prelude.{ℕ, ◌^◌, ◌&&◌, nat_lt, List, [], ◌∷◌, Option, Some, None, Result, Ok, Err, if◌then◌else◌}
use Rattle.std.specs.Option.{ok_or}
use Rattle.std.specs.Str.Parse.{digits_value}
use Rattle.lb_types.specs.Names.{is_name}
use Rattle.lb_types_text.specs.Numbers.{is_number}
use Rattle.lb_types_text.specs.Parts.{parts}
use Rattle.command_socket_words.specs.declared.command.ServerName.{ServerName}
use Rattle.command_socket_words.specs.declared.fault.CommandFault.{CommandFault}
use Rattle.command_socket_words.specs.declared.fault.CommandFault.TheVariants.{UnknownCommand, BadNumber}
use Rattle.command_socket_words.specs.Words.{Word}

-- the name that the word is
unfoldable pub name_in : Word → Result (List ℕ) CommandFault
name_in word = if is_name word then Ok word else Err UnknownCommand

-- two names are those of a backend and its server
unfoldable pub server_of : List (List ℕ) → Option ServerName
server_of (backend ∷ server ∷ []) =
    if is_name backend && is_name server then Some (record { backend = backend; server = server }) else None
server_of _ = None

-- the server that the word `b/s` names. No name has a slash (47)
unfoldable pub server_in : Word → Result ServerName CommandFault
server_in word = ok_or (server_of (parts 47 word)) UnknownCommand

-- the number that the word's decimal digits say, if 64 bits can hold it. Zeros may lead
unfoldable pub number_in : Word → Result ℕ CommandFault
number_in word =
    if is_number word && nat_lt (digits_value 10 word) (2 ^ 64) then Ok (digits_value 10 word) else Err BadNumber
