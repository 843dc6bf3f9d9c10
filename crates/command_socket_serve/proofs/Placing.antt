-- The places of backends that commands name.
use Rattle.std.proofs.Common.{◌≡◌, ℕ, ◌<◌, Bool, true, false, zero, suc, cond, ltb, Option, Some, None, Result, Ok, Err, IfOk, List, [], ◌∷◌, length, get_or, refl, subst, arith}
use Rattle.std.specs.Prelude.{slice_get}
use Rattle.std.specs.List.{position_or_len}
use Rattle.std.specs.Str.{bytes_eq}
use Rattle.std.proofs.lemmas.Bool.{ltb-true}
use Rattle.lb_config.specs.ConfigViews.{BackendView, ConfigView}
use Rattle.lb_config.specs.Finds.{find_backend, find_server, found_backend, server_behind, with_server, server_at}
use Rattle.lb_config.specs.declared.find.FindFault.{FindFault}
use Rattle.command_socket.specs.Resolved.{found_as, resolved}
use Rattle.command_socket.specs.SocketResolved.{plain, socket_resolved}
use Rattle.command_socket.specs.declared.resolved.Resolved.{Resolved}
use Rattle.command_socket.specs.declared.socket.SocketResolved.{SocketResolved}
use Rattle.command_socket_words.specs.declared.socket_command.SocketCommand.{SocketCommand}
use Rattle.command_socket_words.specs.declared.socket_command.SocketCommand.TheVariants as Asks
use Rattle.command_socket_words.specs.declared.command.Command.{Command}
use Rattle.command_socket_words.specs.declared.command.Command.TheVariants as Says
use Rattle.command_socket_words.specs.declared.fault.CommandFault.{CommandFault}
use Rattle.command_socket_serve.specs.Answers.{NamesOneOf, NamesOneOfPlain, looked_up}

-- what stands at a place within the list
pub get_at : {A : Type 0} (xs : List A) (i : ℕ) (d : A) → i < length xs → slice_get xs i ≡ Some (get_or xs i d)
get_at [] i d within = absurd (omega arith)
get_at (x ∷ xs) zero d within = refl
get_at (x ∷ xs) (suc i) d within = get_at xs i d (omega arith)

found_within : (is_within : Bool) (place count : ℕ) → (is_within ≡ true → place < count)
    → IfOk (found_backend (cond is_within (Some place) None)) (λ found. found < count)
found_within true place count within = within refl
found_within false place count within = tt

backend_within : (backends : List BackendView) (name : List ℕ) → IfOk (find_backend backends name) (λ place. place < length backends)
backend_within backends name =
    let place = position_or_len (λ (backend : BackendView). bytes_eq backend.name name) backends in
    found_within (ltb place (length backends)) place (length backends) (ltb-true place (length backends))

with_within : (place count : ℕ) (server : Option ℕ) → place < count → IfOk (with_server place server) (λ found. found.0 < count)
with_within place count (Some server) within = within
with_within place count None within = tt

behind_within : (backends : List BackendView) (name : List ℕ) (place : Result ℕ FindFault) → IfOk place (λ p. p < length backends)
    → IfOk (server_behind backends name place) (λ found. found.0 < length backends)
behind_within backends name (Ok place) within = with_within place (length backends) (server_at backends place name) within
behind_within backends name (Err fault) within = tt

as_within : {A B : Type 0} (command : A → B) (found : Result A FindFault) (P : A → Type 0) (Q : B → Type 0)
    → ((a : A) → P a → Q (command a)) → IfOk found P → IfOk (found_as command found) Q
as_within command (Ok a) P Q also p = also a p
as_within command (Err fault) P Q also p = tt

-- a command that was looked up names a backend of the configuration
resolved_within : (config : ConfigView) (command : Command) → IfOk (resolved config command) (NamesOneOfPlain (length config.backends))
unfolding resolved
resolved_within config (Says.Set name setting) =
    as_within _ (find_server config.backends name.backend name.server) (λ found. found.0 < length config.backends) _ (λ found within. within)
    (behind_within config.backends name.server (find_backend config.backends name.backend) (backend_within config.backends name.backend))
resolved_within config (Says.Plan name) =
    as_within _ (find_backend config.backends name) (λ found. found < length config.backends) _ (λ found within. within)
    (backend_within config.backends name)
resolved_within config (Says.Show what name) =
    as_within _ (find_backend config.backends name) (λ found. found < length config.backends) _ (λ found within. within)
    (backend_within config.backends name)
resolved_within config Says.Stop = tt

plain_within : (count : ℕ) (found : Result Resolved CommandFault) → IfOk found (NamesOneOfPlain count) → IfOk (plain found) (NamesOneOf count)
plain_within count (Ok found) within = within
plain_within count (Err fault) within = tt

-- and so does one of the command socket
socket_within : (config : ConfigView) (command : SocketCommand) → IfOk (socket_resolved config command) (NamesOneOf (length config.backends))
unfolding socket_resolved
socket_within config (Asks.Plain command) =
    plain_within (length config.backends) (resolved config command) (resolved_within config command)
socket_within config (Asks.ShowKey name key) =
    as_within _ (find_backend config.backends name) (λ found. found < length config.backends) _ (λ found within. within)
    (backend_within config.backends name)
socket_within config (Asks.ClearKey name key) =
    as_within _ (find_backend config.backends name) (λ found. found < length config.backends) _ (λ found within. within)
    (backend_within config.backends name)
socket_within config (Asks.SetKey name key) =
    as_within _ (find_server config.backends name.backend name.server) (λ found. found.0 < length config.backends) _ (λ found within. within)
    (behind_within config.backends name.server (find_backend config.backends name.backend) (backend_within config.backends name.backend))
socket_within config (Asks.ShowSheet name) =
    as_within _ (find_backend config.backends name) (λ found. found < length config.backends) _ (λ found within. within)
    (backend_within config.backends name)
socket_within config (Asks.PlanDry name) =
    as_within _ (find_backend config.backends name) (λ found. found < length config.backends) _ (λ found within. within)
    (backend_within config.backends name)

looked_up_within : (config : ConfigView) (said : Result SocketCommand CommandFault) → IfOk (looked_up config said) (NamesOneOf (length config.backends))
looked_up_within config (Ok command) = socket_within config command
looked_up_within config (Err fault) = tt

-- the same of one that was found
pub names_one : (config : ConfigView) (said : Result SocketCommand CommandFault) (command : SocketResolved) → looked_up config said ≡ Ok command
    → NamesOneOf (length config.backends) command
names_one config said command is =
    subst (λ (r : Result SocketResolved CommandFault). IfOk r (NamesOneOf (length config.backends))) is (looked_up_within config said)
