-- A command is read exactly where its words say it.
use Rattle.std.proofs.Common.{◌≡◌, ℕ, ◌^◌, ◌<◌, inl, inr, true, false, List, [], ◌∷◌, codes, Ok, refl, ap, ◌∙◌}
use Rattle.lb_types.specs.Names.{is_name}
use Rattle.server_state.specs.declared.settings.AdminState.{AdminState}
use Rattle.server_state.specs.declared.settings.AdminState.TheVariants.{Ready, Drain, Maint}
use Rattle.server_state.specs.declared.change.Setting.{Setting}
use Rattle.server_state.specs.declared.change.Setting.TheVariants.{Admin, Health, Weight, MaxConnections, MaxPins}
use Rattle.command_socket_words.specs.declared.command.ServerName.{ServerName}
use Rattle.command_socket_words.specs.declared.command.Shown.{Shown}
use Rattle.command_socket_words.specs.declared.command.Shown.TheVariants as shown
use Rattle.command_socket_words.specs.declared.command.Command.{Command}
use Rattle.command_socket_words.specs.declared.command.Command.TheVariants.{Set, Plan, Show, Stop}
use Rattle.command_socket_words.specs.Words.{Word, at_end, last, behind}
use Rattle.command_socket_words.specs.Settings.{admin_in, health_in, weight_in, setting_of}
use Rattle.command_socket_words.specs.Commands.{switch_of, numbered_of, server_numbered_of, set_server_of, set_of, shown_in, show_of, plan_of, command_of}
use Rattle.command_socket_words.specs.Meanings.{server_word, IsNumeral, admin_word, SaysSetting, shown_word, Says, FitsSetting, IsCommand}
use Rattle.command_socket_words.proofs.Meant.{name_again, server_again, number_again}

abbrev AreNames : ServerName → Type 0
AreNames server = (is_name server.backend ≡ true) × (is_name server.server ≡ true)

-- What is said is read.

set_server_again : (server : ServerName) (setting : Setting) (words : List Word) → AreNames server → setting_of words ≡ Ok setting → command_of (codes "set" ∷ codes "server" ∷ server_word server ∷ words) ≡ Ok (Set server setting)
unfolding command_of set_of set_server_of
set_server_again server setting words names read = rw (server_again server names.0 names.1, read) refl

enable_again : (server : ServerName) → AreNames server → command_of (codes "enable" ∷ codes "server" ∷ server_word server ∷ []) ≡ Ok (Set server (Admin Ready))
unfolding command_of switch_of behind last at_end
enable_again server names = rw (server_again server names.0 names.1) refl

disable_again : (server : ServerName) → AreNames server → command_of (codes "disable" ∷ codes "server" ∷ server_word server ∷ []) ≡ Ok (Set server (Admin Maint))
unfolding command_of switch_of behind last at_end
disable_again server names = rw (server_again server names.0 names.1) refl

state_again : (state : AdminState) → setting_of (codes "state" ∷ admin_word state ∷ []) ≡ Ok (Admin state)
unfolding setting_of last at_end admin_in
state_again Ready = refl
state_again Drain = refl
state_again Maint = refl

health_up_again : setting_of (codes "health" ∷ codes "up" ∷ []) ≡ Ok (Health true)
unfolding setting_of last at_end health_in
health_up_again = refl

health_down_again : setting_of (codes "health" ∷ codes "down" ∷ []) ≡ Ok (Health false)
unfolding setting_of last at_end health_in
health_down_again = refl

set_weight_again : (digits : Word) (n : ℕ) → IsNumeral digits n → n < 2 ^ 64 → setting_of (codes "weight" ∷ digits ∷ []) ≡ Ok (Weight n)
unfolding setting_of last at_end weight_in
set_weight_again digits n numeral small = rw (number_again digits n numeral small) refl

numbered_again : (server : ServerName) (digits : Word) (n : ℕ) → AreNames server → IsNumeral digits n → n < 2 ^ 64 → numbered_of (server_word server ∷ digits ∷ []) ≡ Ok (server, n)
unfolding numbered_of last at_end
numbered_again server digits n names numeral small = rw (server_again server names.0 names.1, number_again digits n numeral small) refl

weight_again : (server : ServerName) (digits : Word) (n : ℕ) → AreNames server → IsNumeral digits n → n < 2 ^ 64 → command_of (codes "set" ∷ codes "weight" ∷ server_word server ∷ digits ∷ []) ≡ Ok (Set server (Weight n))
unfolding command_of set_of
weight_again server digits n names numeral small = rw (numbered_again server digits n names numeral small) refl

maxconn_again : (server : ServerName) (digits : Word) (n : ℕ) → AreNames server → IsNumeral digits n → n < 2 ^ 64 → command_of (codes "set" ∷ codes "maxconn" ∷ codes "server" ∷ server_word server ∷ digits ∷ []) ≡ Ok (Set server (MaxConnections n))
unfolding command_of set_of server_numbered_of behind
maxconn_again server digits n names numeral small = rw (numbered_again server digits n names numeral small) refl

maxpins_again : (server : ServerName) (digits : Word) (n : ℕ) → AreNames server → IsNumeral digits n → n < 2 ^ 64 → command_of (codes "set" ∷ codes "maxpins" ∷ codes "server" ∷ server_word server ∷ digits ∷ []) ≡ Ok (Set server (MaxPins n))
unfolding command_of set_of server_numbered_of behind
maxpins_again server digits n names numeral small = rw (numbered_again server digits n names numeral small) refl

plan_again : (backend : List ℕ) → is_name backend ≡ true → command_of (codes "plan" ∷ codes "backend" ∷ backend ∷ []) ≡ Ok (Plan backend)
unfolding command_of plan_of behind last at_end
plan_again backend name = rw (name_again backend name) refl

show_again : (what : Shown) (backend : List ℕ) → is_name backend ≡ true → command_of (codes "show" ∷ shown_word what ∷ backend ∷ []) ≡ Ok (Show what backend)
unfolding command_of show_of shown_in last at_end
show_again shown.Plan backend name = rw (name_again backend name) refl
show_again shown.Table backend name = rw (name_again backend name) refl
show_again shown.Journal backend name = rw (name_again backend name) refl

stop_again : command_of (codes "stop" ∷ []) ≡ Ok Stop
unfolding command_of at_end
stop_again = refl

setting_said : (words : List Word) (server : ServerName) (setting : Setting) → AreNames server → FitsSetting setting → SaysSetting words (server_word server) setting → command_of words ≡ Ok (Set server setting)
setting_said words server (Admin Ready) names fits (inl is) = ap command_of is ∙ set_server_again server (Admin Ready) _ names (state_again Ready)
setting_said words server (Admin Ready) names fits (inr is) = ap command_of is ∙ enable_again server names
setting_said words server (Admin Drain) names fits (inl is) = ap command_of is ∙ set_server_again server (Admin Drain) _ names (state_again Drain)
setting_said words server (Admin Drain) names fits (inr is) = absurd is
setting_said words server (Admin Maint) names fits (inl is) = ap command_of is ∙ set_server_again server (Admin Maint) _ names (state_again Maint)
setting_said words server (Admin Maint) names fits (inr is) = ap command_of is ∙ disable_again server names
setting_said words server (Health true) names fits is = ap command_of is ∙ set_server_again server (Health true) _ names health_up_again
setting_said words server (Health false) names fits is = ap command_of is ∙ set_server_again server (Health false) _ names health_down_again
setting_said words server (Weight n) names fits (digits, numeral, inl is) = ap command_of is ∙ weight_again server digits n names numeral fits
setting_said words server (Weight n) names fits (digits, numeral, inr is) = ap command_of is ∙ set_server_again server (Weight n) _ names (set_weight_again digits n numeral fits)
setting_said words server (MaxConnections n) names fits (digits, numeral, is) = ap command_of is ∙ maxconn_again server digits n names numeral fits
setting_said words server (MaxPins n) names fits (digits, numeral, is) = ap command_of is ∙ maxpins_again server digits n names numeral fits

-- what is said is read
pub said_again : (words : List Word) (command : Command) → IsCommand command → Says words command → command_of words ≡ Ok command
said_again words (Set server setting) lawful said = setting_said words server setting (lawful.0, lawful.1) lawful.2 said
said_again words (Plan backend) lawful said = ap command_of said ∙ plan_again backend lawful
said_again words (Show what backend) lawful said = ap command_of said ∙ show_again what backend lawful
said_again words Stop lawful said = ap command_of said ∙ stop_again
