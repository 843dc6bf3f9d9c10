-- What an operator's command sets of a server.
use Rattle.std.specs.Prelude.{true, false, List, [], ◌∷◌, codes, Result, Ok, Err, if◌then◌else◌}
use Rattle.std.specs.Str.{bytes_eq}
use Rattle.server_state.specs.declared.settings.AdminState.TheVariants.{Ready, Drain, Maint}
use Rattle.server_state.specs.declared.change.Setting.{Setting}
use Rattle.server_state.specs.declared.change.Setting.TheVariants.{Admin, Health, Weight}
use Rattle.command_socket_words.specs.declared.fault.CommandFault.{CommandFault}
use Rattle.command_socket_words.specs.declared.fault.CommandFault.TheVariants.{UnknownCommand, MissingWord}
use Rattle.command_socket_words.specs.Faults.{◌>>=◌}
use Rattle.command_socket_words.specs.Values.{number_in}
use Rattle.command_socket_words.specs.Words.{Word, last}

-- `ready`, `drain` or `maint`
unfoldable pub admin_in : Word → Result Setting CommandFault
admin_in word =
    if bytes_eq word (codes "ready") then Ok (Admin Ready)
    else if bytes_eq word (codes "drain") then Ok (Admin Drain)
    else if bytes_eq word (codes "maint") then Ok (Admin Maint)
    else Err UnknownCommand

-- `up` or `down`
unfoldable pub health_in : Word → Result Setting CommandFault
health_in word =
    if bytes_eq word (codes "up") then Ok (Health true)
    else if bytes_eq word (codes "down") then Ok (Health false)
    else Err UnknownCommand

-- the weight that the word's decimal digits say
unfoldable pub weight_in : Word → Result Setting CommandFault
weight_in word = number_in word >>= λ n. Ok (Weight n)

-- what stands behind `set server b/s`
unfoldable pub setting_of : List Word → Result Setting CommandFault
setting_of [] = Err MissingWord
setting_of (word ∷ more) =
    if bytes_eq word (codes "state") then last admin_in more
    else if bytes_eq word (codes "health") then last health_in more
    else if bytes_eq word (codes "weight") then last weight_in more
    else Err UnknownCommand
