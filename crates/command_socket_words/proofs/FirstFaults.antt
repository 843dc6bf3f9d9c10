-- Commands are read so that the first fault is told.
use Rattle.std.proofs.Common.{◌≡◌, ◌≢◌, ℕ, Bool, true, false, cond, List, [], ◌∷◌, codes, Result, Ok, Err, refl, arith}
use Rattle.std.specs.Str.{bytes_eq}
use Rattle.server_state.specs.declared.settings.AdminState.{AdminState}
use Rattle.server_state.specs.declared.settings.AdminState.TheVariants.{Ready, Drain, Maint}
use Rattle.server_state.specs.declared.change.Setting.{Setting}
use Rattle.server_state.specs.declared.change.Setting.TheVariants.{Admin, Health, Weight, MaxConnections, MaxPins}
use Rattle.command_socket_words.specs.declared.command.ServerName.{ServerName}
use Rattle.command_socket_words.specs.declared.command.Shown.{Shown}
use Rattle.command_socket_words.specs.declared.command.Shown.TheVariants as shown
use Rattle.command_socket_words.specs.declared.command.Command.{Command}
use Rattle.command_socket_words.specs.declared.command.Command.TheVariants.{Set, Plan, Show, Stop}
use Rattle.command_socket_words.specs.declared.fault.CommandFault.{CommandFault}
use Rattle.command_socket_words.specs.declared.fault.CommandFault.TheVariants.{UnknownCommand, MissingWord}
use Rattle.command_socket_words.specs.Faults.{◌>>=◌}
use Rattle.command_socket_words.specs.Words.{Word, at_end, last}
use Rattle.command_socket_words.specs.Values.{name_in, server_in, number_in}
use Rattle.command_socket_words.specs.Settings.{admin_in, health_in, weight_in, setting_of}
use Rattle.command_socket_words.specs.Commands.{switch_of, numbered_of, server_numbered_of, set_server_of, set_of, shown_in, show_of, plan_of, command_of}
use Rattle.command_socket_words.proofs.Steps.{mapped_err}
use Rattle.command_socket_words.proofs.Meant.{name_misses_none, server_misses_none, number_misses_none, name_again, server_again, number_again}
use Rattle.command_socket_words.proofs.Readings.{IsReading, reading-fault, reading-if, reading-first, reading-map, reading-given, reading-end, reading-last, reading-behind}

abbrev Behind : Type 0 → Type 0
Behind A = List Word → Result A CommandFault

unknown : (A : Type 0) → IsReading A (λ words. Err UnknownCommand)
unknown A = reading-fault A UnknownCommand (λ same. cc)

-- the server `a` of the backend `a`
abbrev some_server : ServerName
some_server = record { backend = codes "a"; server = codes "a" }

abbrev some_server_word : Word
some_server_word = codes "a/a"

some_server_is : server_in some_server_word ≡ Ok some_server
some_server_is = server_again some_server refl refl

pub some_number_is : number_in (codes "0") ≡ Ok 0
some_number_is = number_again (codes "0") 0 (refl, refl) (omega arith)

some_name_is : name_in (codes "a") ≡ Ok (codes "a")
some_name_is = name_again (codes "a") refl

last_name : IsReading (List ℕ) (last name_in)
last_name = reading-last (List ℕ) name_in name_misses_none (codes "a") (codes "a") some_name_is

last_server : IsReading ServerName (last server_in)
last_server = reading-last ServerName server_in server_misses_none some_server_word some_server some_server_is

last_number : IsReading ℕ (last number_in)
last_number = reading-last ℕ number_in number_misses_none (codes "0") 0 some_number_is

-- a word that is chosen from some misses none
chosen : {A : Type 0} (b : Bool) (x : A) (r : Result A CommandFault) → r ≢ Err MissingWord → cond b (Ok x) r ≢ Err MissingWord
chosen true x r other is = cc
chosen false x r other is = other is

abbrev no_word : (A : Type 0) → Result A CommandFault
no_word A = Err UnknownCommand

none_chosen : (A : Type 0) → no_word A ≢ Err MissingWord
none_chosen A is = cc

admin_misses_none : (word : Word) → admin_in word ≢ Err MissingWord
unfolding admin_in
admin_misses_none word = chosen (bytes_eq word (codes "ready")) (Admin Ready) _ (chosen (bytes_eq word (codes "drain")) (Admin Drain) _ (chosen (bytes_eq word (codes "maint")) (Admin Maint) _ (none_chosen Setting)))

health_misses_none : (word : Word) → health_in word ≢ Err MissingWord
unfolding health_in
health_misses_none word = chosen (bytes_eq word (codes "up")) (Health true) _ (chosen (bytes_eq word (codes "down")) (Health false) _ (none_chosen Setting))

weight_misses_none : (word : Word) → weight_in word ≢ Err MissingWord
unfolding weight_in
weight_misses_none word is = number_misses_none word (mapped_err (number_in word) (λ n. Weight n) MissingWord is)

shown_misses_none : (word : Word) → shown_in word ≢ Err MissingWord
unfolding shown_in
shown_misses_none word = chosen (bytes_eq word (codes "plan")) shown.Plan _ (chosen (bytes_eq word (codes "table")) shown.Table _ (chosen (bytes_eq word (codes "journal")) shown.Journal _ (none_chosen Shown)))

last_admin : IsReading Setting (last admin_in)
unfolding admin_in
last_admin = reading-last Setting admin_in admin_misses_none (codes "ready") (Admin Ready) refl

last_health : IsReading Setting (last health_in)
unfolding health_in
last_health = reading-last Setting health_in health_misses_none (codes "up") (Health true) refl

last_weight : IsReading Setting (last weight_in)
unfolding weight_in
last_weight = reading-last Setting weight_in weight_misses_none (codes "0") (Weight 0) (rw some_number_is refl)

abbrev pub setting_chain : Word → Behind Setting
setting_chain w more =
    cond (bytes_eq w (codes "state")) (last admin_in more)
    (cond (bytes_eq w (codes "health")) (last health_in more) (cond (bytes_eq w (codes "weight")) (last weight_in more) (Err UnknownCommand)))

setting_each : (w : Word) → IsReading Setting (setting_chain w)
setting_each w =
    reading-if Setting _ (last admin_in) _ last_admin
    (reading-if Setting _ (last health_in) _ last_health (reading-if Setting _ (last weight_in) _ last_weight (unknown Setting)))

setting_reading : IsReading Setting setting_of
unfolding setting_of last at_end health_in
setting_reading = reading-first Setting setting_of setting_chain refl (λ w more. refl) setting_each (codes "health") (codes "up" ∷ []) (Health true) refl

switch_reading : (state : AdminState) → IsReading Command (switch_of state)
unfolding switch_of last at_end
switch_reading state =
    reading-map ServerName Command _ (λ server. Set server (Admin state))
    (reading-behind ServerName (codes "server") (last server_in) last_server (some_server_word ∷ []) some_server (rw some_server_is refl))

numbered_reading : IsReading (ServerName × ℕ) numbered_of
unfolding numbered_of last at_end
numbered_reading =
    reading-first (ServerName × ℕ) numbered_of (λ w more. server_in w >>= λ server. (last number_in more >>= λ n. Ok (server, n))) refl (λ w more. refl)
    (λ w. reading-given ServerName (ServerName × ℕ) (server_in w) (λ server more. last number_in more >>= λ n. Ok (server, n)) (server_misses_none w) (λ server. reading-map ℕ (ServerName × ℕ) (last number_in) (λ n. (server, n)) last_number))
    some_server_word (codes "0" ∷ []) (some_server, 0) (rw (some_server_is, some_number_is) refl)

some_numbered : numbered_of (some_server_word ∷ codes "0" ∷ []) ≡ Ok (some_server, 0)
unfolding numbered_of last at_end
some_numbered = rw (some_server_is, some_number_is) refl

server_numbered_reading : IsReading (ServerName × ℕ) server_numbered_of
unfolding server_numbered_of
server_numbered_reading =
    reading-behind (ServerName × ℕ) (codes "server") numbered_of numbered_reading (some_server_word ∷ codes "0" ∷ []) (some_server, 0) some_numbered

set_server_reading : IsReading Command set_server_of
unfolding set_server_of setting_of last at_end health_in
set_server_reading =
    reading-first Command set_server_of (λ w more. server_in w >>= λ server. (setting_of more >>= λ setting. Ok (Set server setting))) refl (λ w more. refl)
    (λ w. reading-given ServerName Command (server_in w) (λ server more. setting_of more >>= λ setting. Ok (Set server setting)) (server_misses_none w) (λ server. reading-map Setting Command setting_of (λ setting. Set server setting) setting_reading))
    some_server_word (codes "health" ∷ codes "up" ∷ []) (Set some_server (Health true)) (rw some_server_is refl)

abbrev pub set_numbered : (ℕ → Setting) → Behind Command
set_numbered setting more = numbered_of more >>= λ x. Ok (Set x.0 (setting x.1))

abbrev pub set_server_numbered : (ℕ → Setting) → Behind Command
set_server_numbered setting more = server_numbered_of more >>= λ x. Ok (Set x.0 (setting x.1))

abbrev pub set_chain : Word → Behind Command
set_chain w more =
    cond (bytes_eq w (codes "server")) (set_server_of more)
    (cond (bytes_eq w (codes "weight")) (set_numbered Weight more)
    (cond (bytes_eq w (codes "maxconn")) (set_server_numbered MaxConnections more)
    (cond (bytes_eq w (codes "maxpins")) (set_server_numbered MaxPins more) (Err UnknownCommand))))

set_each : (w : Word) → IsReading Command (set_chain w)
set_each w =
    reading-if Command _ set_server_of _ set_server_reading
    (reading-if Command _ (set_numbered Weight) _ (reading-map (ServerName × ℕ) Command numbered_of (λ x. Set x.0 (Weight x.1)) numbered_reading)
    (reading-if Command _ (set_server_numbered MaxConnections) _ (reading-map (ServerName × ℕ) Command server_numbered_of (λ x. Set x.0 (MaxConnections x.1)) server_numbered_reading)
    (reading-if Command _ (set_server_numbered MaxPins) _ (reading-map (ServerName × ℕ) Command server_numbered_of (λ x. Set x.0 (MaxPins x.1)) server_numbered_reading) (unknown Command))))

set_reading : IsReading Command set_of
unfolding set_of
set_reading = reading-first Command set_of set_chain refl (λ w more. refl) set_each (codes "weight") (some_server_word ∷ codes "0" ∷ []) (Set some_server (Weight 0)) (rw some_numbered refl)

show_reading : IsReading Command show_of
unfolding show_of shown_in last at_end
show_reading =
    reading-first Command show_of (λ w more. shown_in w >>= λ what. (last name_in more >>= λ backend. Ok (Show what backend))) refl (λ w more. refl)
    (λ w. reading-given Shown Command (shown_in w) (λ what more. last name_in more >>= λ backend. Ok (Show what backend)) (shown_misses_none w) (λ what. reading-map (List ℕ) Command (last name_in) (λ backend. Show what backend) last_name))
    (codes "plan") (codes "a" ∷ []) (Show shown.Plan (codes "a")) (rw some_name_is refl)

plan_reading : IsReading Command plan_of
unfolding plan_of last at_end
plan_reading =
    reading-map (List ℕ) Command _ (λ backend. Plan backend)
    (reading-behind (List ℕ) (codes "backend") (last name_in) last_name (codes "a" ∷ []) (codes "a") (rw some_name_is refl))

abbrev pub command_stop : Behind Command
command_stop more = at_end more >>= λ _. Ok Stop

abbrev pub command_chain : Word → Behind Command
command_chain w more =
    cond (bytes_eq w (codes "set")) (set_of more)
    (cond (bytes_eq w (codes "enable")) (switch_of Ready more)
    (cond (bytes_eq w (codes "disable")) (switch_of Maint more)
    (cond (bytes_eq w (codes "plan")) (plan_of more)
    (cond (bytes_eq w (codes "show")) (show_of more) (cond (bytes_eq w (codes "stop")) (command_stop more) (Err UnknownCommand))))))

command_each : (w : Word) → IsReading Command (command_chain w)
command_each w =
    reading-if Command _ set_of _ set_reading
    (reading-if Command _ (switch_of Ready) _ (switch_reading Ready)
    (reading-if Command _ (switch_of Maint) _ (switch_reading Maint)
    (reading-if Command _ plan_of _ plan_reading
    (reading-if Command _ show_of _ show_reading (reading-if Command _ command_stop _ (reading-end Command Stop) (unknown Command))))))

pub command_reading : IsReading Command command_of
unfolding command_of at_end
command_reading = reading-first Command command_of command_chain refl (λ w more. refl) command_each (codes "stop") [] Stop refl
