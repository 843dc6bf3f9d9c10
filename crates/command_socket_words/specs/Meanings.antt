-- The table of commands: the words that say each one, and what a word is where it stands for a server or a number.
use Rattle.std.specs.Prelude.{◌≡◌, ℕ, ◌^◌, ◌<◌, ◌⊎◌, true, false, List, [], ◌∷◌, ◌++◌, codes}
use Rattle.std.specs.Str.Parse.{digits_value}
use Rattle.lb_types.specs.Names.{is_name}
use Rattle.lb_types_text.specs.Numbers.{is_number}
use Rattle.server_state.specs.declared.settings.AdminState.{AdminState}
use Rattle.server_state.specs.declared.settings.AdminState.TheVariants.{Ready, Drain, Maint}
use Rattle.server_state.specs.declared.change.Setting.{Setting}
use Rattle.server_state.specs.declared.change.Setting.TheVariants.{Admin, Health, Weight, MaxConnections, MaxPins}
use Rattle.command_socket_words.specs.declared.command.ServerName.{ServerName}
use Rattle.command_socket_words.specs.declared.command.Shown.{Shown}
use Rattle.command_socket_words.specs.declared.command.Shown.TheVariants as shown
use Rattle.command_socket_words.specs.declared.command.Command.{Command}
use Rattle.command_socket_words.specs.declared.command.Command.TheVariants.{Set, Plan, Show, Stop}
use Rattle.command_socket_words.specs.Words.{Word}

-- the word that names a server: `b/s`
abbrev pub server_word : ServerName → Word
server_word server = server.backend ++ 47 ∷ server.server

-- the word is a number's decimal digits. Zeros may lead
abbrev pub IsNumeral : Word → ℕ → Type 0
IsNumeral word n = (is_number word ≡ true) × (digits_value 10 word ≡ n)

-- the word for an admin state
abbrev pub admin_word : AdminState → Word
admin_word Ready = codes "ready"
admin_word Drain = codes "drain"
admin_word Maint = codes "maint"

-- the short way to set an admin state, where there is one
abbrev pub SwitchesBy : List Word → Word → AdminState → Type 0
SwitchesBy words server Ready = words ≡ codes "enable" ∷ codes "server" ∷ server ∷ []
SwitchesBy words server Drain = ⊥
SwitchesBy words server Maint = words ≡ codes "disable" ∷ codes "server" ∷ server ∷ []

-- the words set this of the server
abbrev pub SaysSetting : List Word → Word → Setting → Type 0
SaysSetting words server (Admin state) =
    (words ≡ codes "set" ∷ codes "server" ∷ server ∷ codes "state" ∷ admin_word state ∷ []) ⊎ SwitchesBy words server state
SaysSetting words server (Health true) = words ≡ codes "set" ∷ codes "server" ∷ server ∷ codes "health" ∷ codes "up" ∷ []
SaysSetting words server (Health false) = words ≡ codes "set" ∷ codes "server" ∷ server ∷ codes "health" ∷ codes "down" ∷ []
SaysSetting words server (Weight n) = (digits : Word) × IsNumeral digits n ×
    ((words ≡ codes "set" ∷ codes "weight" ∷ server ∷ digits ∷ [])
    ⊎ (words ≡ codes "set" ∷ codes "server" ∷ server ∷ codes "weight" ∷ digits ∷ []))
SaysSetting words server (MaxConnections n) = (digits : Word) × IsNumeral digits n ×
    (words ≡ codes "set" ∷ codes "maxconn" ∷ codes "server" ∷ server ∷ digits ∷ [])
SaysSetting words server (MaxPins n) = (digits : Word) × IsNumeral digits n ×
    (words ≡ codes "set" ∷ codes "maxpins" ∷ codes "server" ∷ server ∷ digits ∷ [])

-- the word for what `show` prints
abbrev pub shown_word : Shown → Word
shown_word shown.Plan = codes "plan"
shown_word shown.Table = codes "table"
shown_word shown.Journal = codes "journal"

-- the words say the command
abbrev pub Says : List Word → Command → Type 0
Says words (Set server setting) = SaysSetting words (server_word server) setting
Says words (Plan backend) = words ≡ codes "plan" ∷ codes "backend" ∷ backend ∷ []
Says words (Show what backend) = words ≡ codes "show" ∷ shown_word what ∷ backend ∷ []
Says words Stop = words ≡ codes "stop" ∷ []

-- 64 bits hold the number of the setting
abbrev pub FitsSetting : Setting → Type 0
FitsSetting (Admin state) = Unit {0}
FitsSetting (Health up) = Unit {0}
FitsSetting (Weight n) = n < 2 ^ 64
FitsSetting (MaxConnections n) = n < 2 ^ 64
FitsSetting (MaxPins n) = n < 2 ^ 64

-- a command as the program has it: its names are names, and 64 bits hold its number
abbrev pub IsCommand : Command → Type 0
IsCommand (Set server setting) = (is_name server.backend ≡ true) × (is_name server.server ≡ true) × FitsSetting setting
IsCommand (Plan backend) = is_name backend ≡ true
IsCommand (Show what backend) = is_name backend ≡ true
IsCommand Stop = Unit {0}
