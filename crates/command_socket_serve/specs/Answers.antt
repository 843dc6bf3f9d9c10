-- What an operator is answered to one command, and what that asks of the desks. Which commands there are is in `command_socket`. All
-- texts are those of `lb_answers`; that a change which is made has no text is as in HAProxy's Management Guide 2.8, section 9.3.
use Rattle.std.specs.Prelude.{◌≡◌, ◌⊎◌, ◌<◌, ⊤, ℕ, Bool, true, false, List, [], ◌∷◌, ◌++◌, Some, Result, Ok, Err, codes, slice_get, if◌then◌else◌}
use Rattle.server_state.specs.declared.change.Change.{Change}
use Rattle.command_socket_words.specs.Faults.{fault_text}
use Rattle.command_socket_words.specs.declared.socket_command.SocketCommand.{SocketCommand}
use Rattle.command_socket_words.specs.declared.command.Shown.{Shown}
use Rattle.command_socket_words.specs.declared.command.Shown.TheVariants as Show
use Rattle.command_socket_words.specs.declared.fault.CommandFault.{CommandFault}
use Rattle.command_socket.specs.SocketResolved.{socket_resolved}
use Rattle.command_socket.specs.declared.resolved.Resolved.{Resolved}
use Rattle.command_socket.specs.declared.resolved.Resolved.TheVariants as Is
use Rattle.command_socket.specs.declared.socket.SocketResolved.{SocketResolved}
use Rattle.command_socket.specs.declared.socket.SocketResolved.TheVariants as Named
use Rattle.lb_config.specs.ConfigViews.{ConfigView}
use Rattle.lb_desk_model.specs.declared.entry.Entry.{Entry}
use Rattle.lb_desk_model.specs.declared.reply.Reply.{Reply}
use Rattle.lb_desk_model.specs.declared.reply.Reply.TheVariants.{Done}
use Rattle.pin_set.specs.declared.table_pin.TablePin.{TablePin}
use Rattle.lb_desk_ports.specs.declared.refused.Refused.{Refused}
use Rattle.lb_desk_ports.specs.declared.refused.Refused.TheVariants.{Memory}
use Rattle.lb_desk_steer.specs.Steering.{KeepsSights, SeesJournal, SeesPins, commanding_entries}
use Rattle.lb_desk_evacuate.specs.Evacuations.{Evacuates}
use Rattle.lb_desk_evacuate.specs.declared.evacuating.Evacuation.{Evacuation}
use Rattle.lb_desk_evacuate.specs.declared.evacuating.Evacuation.TheVariants as evacuation
use Rattle.lb_answers.specs.declared.named_backend.NamedBackend.{NamedBackend}
use Rattle.lb_answers.specs.Journals.{journal_text, last_installed, plan_text}
use Rattle.lb_answers.specs.Replies.{reply_text}
use Rattle.lb_answers.specs.Scores.{score_text}
use Rattle.lb_answers.specs.Tables.{table_text}
use Rattle.command_socket_serve.specs.Consoles.{ConsoleView}
use Rattle.command_socket_serve.specs.Desks.{AtDesk, DeskSeen, LooksAt}
use Rattle.command_socket_serve.specs.Outcomes.{Outcome, no_outcome, only_text}
use Rattle.command_socket_serve.specs.Refusals.{refused_line}
use Rattle.command_socket_serve.specs.Tasks.{Asks}

-- ---- changes

-- the change is made
abbrev pub is_done : Reply → Bool
is_done Done = true
is_done _ = false

abbrev pub is_made : Result Reply Refused → Bool
is_made (Ok reply) = is_done reply
is_made (Err refused) = false

-- a change that is made has no line
abbrev pub change_text : NamedBackend → ℕ → Result Reply Refused → List ℕ
change_text named server (Ok reply) = if is_done reply then [] else reply_text named.servers.now (Some server) reply ++ codes "\n"
change_text named server (Err refused) = refused_line refused

-- a change is asked of the desk of the backend at the place, in one event
pub record Changes (named : NamedBackend) (place : ℕ) (change : Change) (old new : DeskSeen) (outcome : Outcome) : Type 0 where
  pub reply : Result Reply Refused
  pub entries : new.entries ≡ old.entries ++ commanding_entries change reply
  pub planned_now : new.planned_now ≡ old.planned_now
  pub backend : new.backend ≡ old.backend
  pub sights : KeepsSights old.sights new.sights
  pub text : outcome.text ≡ change_text named change.server reply
  pub changed : outcome.changed ≡ (if is_made reply then place ∷ [] else [])

-- ---- plans

abbrev pub evacuation_text : Result Evacuation Refused → List ℕ
evacuation_text (Ok (evacuation.Done score)) = score_text score ++ codes "\n"
evacuation_text (Ok evacuation.AllStale) = codes "stale\n"
evacuation_text (Err refused) = refused_line refused

-- pins are moved off the servers of a backend, in at most so many tries
pub record Plans (tries : ℕ) (old new : DeskSeen) (text : List ℕ) : Type 0 where
  pub answer : Result Evacuation Refused
  pub evacuates : Evacuates tries answer old.entries new.entries old.planned_now new.planned_now
  pub backend : new.backend ≡ old.backend
  pub text_is : text ≡ evacuation_text answer

-- ---- what is shown

-- What is shown of a backend: its pins, or the end of its history, at a moment after all events that were made at this desk. The
-- history at that moment is the desk's last sight
abbrev pub IsShown : NamedBackend → DeskSeen → DeskSeen → Shown → List ℕ → Type 0
IsShown named old new Show.Table text =
    (pins : List TablePin) × SeesPins old.backend old.entries old.sights new.sights pins
    × (text ≡ table_text named.name named.servers.now named.table pins)
IsShown named old new Show.Plan text =
    (first : ℕ) × (entries : List Entry) × SeesJournal old.backend old.entries old.sights new.sights first entries
    × (text ≡ plan_text (last_installed entries))
IsShown named old new Show.Journal text =
    (first : ℕ) × (entries : List Entry) × SeesJournal old.backend old.entries old.sights new.sights first entries
    × (text ≡ journal_text named.name named.servers.now first entries)

-- it is shown, or there is not memory enough for a copy; the desk is only looked at
pub record Shows (named : NamedBackend) (what : Shown) (old new : DeskSeen) (text : List ℕ) : Type 0 where
  pub shown : IsShown named old new what text ⊎ (text ≡ refused_line Memory)
  pub kept : LooksAt old new

-- ---- a command

-- a command that scripts take too names a backend of these
abbrev pub NamesOneOfPlain : ℕ → Resolved → Type 0
NamesOneOfPlain count (Is.Change place change) = place < count
NamesOneOfPlain count (Is.Plan place) = place < count
NamesOneOfPlain count (Is.Show what place) = place < count
NamesOneOfPlain count Is.Stop = ⊤

-- what one comes to whose names are known
abbrev pub CarriesOutPlain : {D : Type 0} → (D → DeskSeen) → ConsoleView → Resolved → List D → List D → Outcome → Type 0
CarriesOutPlain seen console (Is.Change place change) desks used outcome =
    (named : NamedBackend) × (slice_get console.names place ≡ Some named)
    × AtDesk seen place desks used (λ old new. Changes named place change old new outcome)
CarriesOutPlain seen console (Is.Plan place) desks used outcome =
    AtDesk seen place desks used (λ old new. Plans console.config.tries old new outcome.text) × (outcome.changed ≡ [])
CarriesOutPlain seen console (Is.Show what place) desks used outcome =
    (named : NamedBackend) × (slice_get console.names place ≡ Some named)
    × AtDesk seen place desks used (λ old new. Shows named what old new outcome.text) × (outcome.changed ≡ [])
CarriesOutPlain seen console Is.Stop desks used outcome = (outcome ≡ no_outcome) × (used ≡ desks)

-- the command names a backend of these
abbrev pub NamesOneOf : ℕ → SocketResolved → Type 0
NamesOneOf count (Named.Plain command) = NamesOneOfPlain count command
NamesOneOf count (Named.Asked place task) = place < count

-- what a command comes to whose names are known
abbrev pub CarriesOut : {D : Type 0} → (D → DeskSeen) → ConsoleView → SocketResolved → List D → List D → Outcome → Type 0
CarriesOut seen console (Named.Plain command) desks used outcome = CarriesOutPlain seen console command desks used outcome
CarriesOut seen console (Named.Asked place task) desks used outcome =
    (named : NamedBackend) × (slice_get console.names place ≡ Some named)
    × AtDesk seen place desks used (λ old new. Asks named console.moment task old new outcome.text) × (outcome.changed ≡ [])

-- the command with its backend and its server, or its fault
abbrev pub looked_up : ConfigView → Result SocketCommand CommandFault → Result SocketResolved CommandFault
looked_up config (Ok command) = socket_resolved config command
looked_up config (Err fault) = Err fault

-- what a command comes to, or what is told in its place
abbrev pub Answers : {D : Type 0} → (D → DeskSeen) → ConsoleView → Result SocketResolved CommandFault → List D → List D → Outcome → Type 0
Answers seen console (Ok command) desks used outcome = CarriesOut seen console command desks used outcome
Answers seen console (Err fault) desks used outcome = (outcome ≡ only_text (fault_text fault ++ codes "\n")) × (used ≡ desks)
