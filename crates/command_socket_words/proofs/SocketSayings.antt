-- What is said to the command socket is read.
use Rattle.std.proofs.Common.{◌≡◌, ℕ, inl, inr, true, false, List, [], ◌∷◌, codes, Ok, refl, sym, ap, ◌∙◌}
use Rattle.lb_types.specs.Names.{is_name}
use Rattle.server_state.specs.declared.settings.AdminState.TheVariants.{Ready, Drain, Maint}
use Rattle.server_state.specs.declared.change.Setting.TheVariants.{Admin, Health, Weight, MaxConnections, MaxPins}
use Rattle.command_socket_words.specs.declared.command.ServerName.{ServerName}
use Rattle.command_socket_words.specs.declared.command.Shown.TheVariants as shown
use Rattle.command_socket_words.specs.declared.command.Command.{Command}
use Rattle.command_socket_words.specs.declared.command.Command.TheVariants.{Set, Plan, Show, Stop}
use Rattle.command_socket_words.specs.declared.socket_command.SocketCommand.{SocketCommand}
use Rattle.command_socket_words.specs.declared.socket_command.SocketCommand.TheVariants.{Plain, ShowKey, ClearKey, SetKey, ShowSheet, PlanDry}
use Rattle.command_socket_words.specs.Commands.{command_of}
use Rattle.command_socket_words.specs.Meanings.{IsCommand, Says, server_word}
use Rattle.command_socket_words.specs.SocketCommands.{clear_of, dry_of, key_of, keyed_of, placed_of, plan_backend_of, plainly, rows_of, set_table_of, show_table_of, socket_command_of, socket_set_of, socket_show_of}
use Rattle.command_socket_words.specs.SocketMeanings.{IsSocketCommand, SocketSays}
use Rattle.command_socket_words.specs.Words.{Word, at_end, behind, last}
use Rattle.command_socket_words.proofs.Meant.{name_again}
use Rattle.command_socket_words.proofs.Sayings.{said_again}

-- ---- commands that scripts take too

-- the words are read on the socket as in a script
abbrev IsSame : List Word → Type 0
IsSame words = socket_command_of words ≡ plainly (command_of words)

set_same : (kind : Word) (more : List Word) → socket_set_of (kind ∷ more) ≡ plainly (command_of (codes "set" ∷ kind ∷ more)) → IsSame (codes "set" ∷ kind ∷ more)
unfolding socket_command_of
set_same kind more same = same

server_same : (more : List Word) → socket_set_of (codes "server" ∷ more) ≡ plainly (command_of (codes "set" ∷ codes "server" ∷ more))
unfolding socket_set_of command_of
server_same more = refl

weight_same : (more : List Word) → socket_set_of (codes "weight" ∷ more) ≡ plainly (command_of (codes "set" ∷ codes "weight" ∷ more))
unfolding socket_set_of command_of
weight_same more = refl

maxconn_same : (more : List Word) → socket_set_of (codes "maxconn" ∷ more) ≡ plainly (command_of (codes "set" ∷ codes "maxconn" ∷ more))
unfolding socket_set_of command_of
maxconn_same more = refl

maxpins_same : (more : List Word) → socket_set_of (codes "maxpins" ∷ more) ≡ plainly (command_of (codes "set" ∷ codes "maxpins" ∷ more))
unfolding socket_set_of command_of
maxpins_same more = refl

enable_same : (more : List Word) → IsSame (codes "enable" ∷ more)
unfolding socket_command_of
enable_same more = refl

disable_same : (more : List Word) → IsSame (codes "disable" ∷ more)
unfolding socket_command_of
disable_same more = refl

stop_same : (more : List Word) → IsSame (codes "stop" ∷ more)
unfolding socket_command_of
stop_same more = refl

show_plan_same : (more : List Word) → IsSame (codes "show" ∷ codes "plan" ∷ more)
unfolding socket_command_of socket_show_of command_of
show_plan_same more = refl

show_journal_same : (more : List Word) → IsSame (codes "show" ∷ codes "journal" ∷ more)
unfolding socket_command_of socket_show_of command_of
show_journal_same more = refl

through : (words ws : List Word) (command : Command) → words ≡ ws → IsSame ws → command_of words ≡ Ok command → socket_command_of words ≡ Ok (Plain command)
through words ws command is same read = ap socket_command_of is ∙ same ∙ ap plainly (sym (ap command_of is) ∙ read)

table_again : (backend : List ℕ) → is_name backend ≡ true → socket_command_of (codes "show" ∷ codes "table" ∷ backend ∷ []) ≡ Ok (Plain (Show shown.Table backend))
unfolding socket_command_of socket_show_of show_table_of rows_of
table_again backend name = rw (name_again backend name) refl

plan_again : (backend : List ℕ) → is_name backend ≡ true → socket_command_of (codes "plan" ∷ codes "backend" ∷ backend ∷ []) ≡ Ok (Plain (Plan backend))
unfolding socket_command_of behind plan_backend_of dry_of
plan_again backend name = rw (name_again backend name) refl

set_said : (words : List Word) (command : Command) (kind : Word) (more : List Word) → words ≡ codes "set" ∷ kind ∷ more
    → socket_set_of (kind ∷ more) ≡ plainly (command_of (codes "set" ∷ kind ∷ more)) → command_of words ≡ Ok command
    → socket_command_of words ≡ Ok (Plain command)
set_said words command kind more is same read = through words (codes "set" ∷ kind ∷ more) command is (set_same kind more same) read

plain_read : (words : List Word) (command : Command) → IsCommand command → Says words command → command_of words ≡ Ok command → socket_command_of words ≡ Ok (Plain command)
plain_read words (Set server (Admin Ready)) lawful (inl is) read = set_said words _ _ _ is (server_same _) read
plain_read words (Set server (Admin Ready)) lawful (inr is) read = through words _ _ is (enable_same _) read
plain_read words (Set server (Admin Drain)) lawful (inl is) read = set_said words _ _ _ is (server_same _) read
plain_read words (Set server (Admin Drain)) lawful (inr is) read = absurd is
plain_read words (Set server (Admin Maint)) lawful (inl is) read = set_said words _ _ _ is (server_same _) read
plain_read words (Set server (Admin Maint)) lawful (inr is) read = through words _ _ is (disable_same _) read
plain_read words (Set server (Health true)) lawful is read = set_said words _ _ _ is (server_same _) read
plain_read words (Set server (Health false)) lawful is read = set_said words _ _ _ is (server_same _) read
plain_read words (Set server (Weight n)) lawful (digits, numeral, inl is) read = set_said words _ _ _ is (weight_same _) read
plain_read words (Set server (Weight n)) lawful (digits, numeral, inr is) read = set_said words _ _ _ is (server_same _) read
plain_read words (Set server (MaxConnections n)) lawful (digits, numeral, is) read = set_said words _ _ _ is (maxconn_same _) read
plain_read words (Set server (MaxPins n)) lawful (digits, numeral, is) read = set_said words _ _ _ is (maxpins_same _) read
plain_read words (Plan backend) lawful is read = ap socket_command_of is ∙ plan_again backend lawful
plain_read words (Show shown.Plan backend) lawful is read = through words _ _ is (show_plan_same _) read
plain_read words (Show shown.Table backend) lawful is read = ap socket_command_of is ∙ table_again backend lawful
plain_read words (Show shown.Journal backend) lawful is read = through words _ _ is (show_journal_same _) read
plain_read words Stop lawful is read = through words _ _ is (stop_same _) read

-- ---- the socket's own

show_key_again : (backend key : List ℕ) → is_name backend ≡ true
    → socket_command_of (codes "show" ∷ codes "table" ∷ backend ∷ codes "key" ∷ key ∷ []) ≡ Ok (ShowKey backend key)
unfolding socket_command_of socket_show_of show_table_of rows_of key_of behind last at_end
show_key_again backend key name = rw (name_again backend name) refl

clear_again : (backend key : List ℕ) → is_name backend ≡ true
    → socket_command_of (codes "clear" ∷ codes "table" ∷ backend ∷ codes "key" ∷ key ∷ []) ≡ Ok (ClearKey backend key)
unfolding socket_command_of clear_of keyed_of key_of behind last at_end
clear_again backend key name = rw (name_again backend name) refl

set_again : (server : ServerName) (key : List ℕ) → is_name server.backend ≡ true → is_name server.server ≡ true
    → socket_command_of (codes "set" ∷ codes "table" ∷ server.backend ∷ codes "key" ∷ key ∷ codes "server" ∷ server.server ∷ []) ≡ Ok (SetKey server key)
unfolding socket_command_of socket_set_of set_table_of placed_of behind last at_end
set_again server key backend name = rw (name_again server.backend backend, name_again server.server name) refl

sheet_again : (backend : List ℕ) → is_name backend ≡ true → socket_command_of (codes "show" ∷ codes "sheet" ∷ backend ∷ []) ≡ Ok (ShowSheet backend)
unfolding socket_command_of socket_show_of last at_end
sheet_again backend name = rw (name_again backend name) refl

dry_again : (backend : List ℕ) → is_name backend ≡ true → socket_command_of (codes "plan" ∷ codes "backend" ∷ backend ∷ codes "dry" ∷ []) ≡ Ok (PlanDry backend)
unfolding socket_command_of plan_backend_of dry_of behind at_end
dry_again backend name = rw (name_again backend name) refl

-- what is said is read
pub said_to_socket : (words : List Word) (command : SocketCommand) → IsSocketCommand command → SocketSays words command → socket_command_of words ≡ Ok command
said_to_socket words (Plain command) lawful said = plain_read words command lawful said (said_again words command lawful said)
said_to_socket words (ShowKey backend key) lawful said = ap socket_command_of said ∙ show_key_again backend key lawful
said_to_socket words (ClearKey backend key) lawful said = ap socket_command_of said ∙ clear_again backend key lawful
said_to_socket words (SetKey server key) lawful said = ap socket_command_of said ∙ set_again server key lawful.0 lawful.1
said_to_socket words (ShowSheet backend) lawful said = ap socket_command_of said ∙ sheet_again backend lawful
said_to_socket words (PlanDry backend) lawful said = ap socket_command_of said ∙ dry_again backend lawful
