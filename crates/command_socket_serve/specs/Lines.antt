-- What a line of commands is answered. That an empty line ends the answer to each command is as in HAProxy's Management Guide 2.8,
-- section 9.3; commands and their faults are those of `command_socket`.
use Rattle.std.specs.Prelude.{◌≡◌, ◌⊎◌, ℕ, Bool, true, false, List, [], ◌∷◌, Option, IfSome, Result, Ok, Err, codes, take, if◌then◌else◌}
use Rattle.std.specs.List.{list_any}
use Rattle.std.specs.Io.BufRead.{ends_with_byte, strip_last, take_through}
use Rattle.command_socket_words.specs.SocketCommands.{socket_commands_of}
use Rattle.command_socket_words.specs.declared.socket_command.SocketCommand.{SocketCommand}
use Rattle.command_socket_words.specs.declared.socket_command.SocketCommand.TheVariants.{Plain}
use Rattle.command_socket_words.specs.declared.command.Command.TheVariants.{Stop}
use Rattle.command_socket_words.specs.declared.fault.CommandFault.{CommandFault}
use Rattle.command_socket_words.specs.declared.fault.CommandFault.TheVariants.{UnknownCommand}
use Rattle.lb_desk_ports.specs.Calls.{Grows}
use Rattle.lb_desk_ports.specs.declared.refused.Refused.TheVariants.{Memory}
use Rattle.command_socket_serve.specs.Answers.{Answers, looked_up}
use Rattle.command_socket_serve.specs.Consoles.{ConsoleView}
use Rattle.command_socket_serve.specs.Desks.{DeskSeen}
use Rattle.command_socket_serve.specs.Outcomes.{Outcome, both, no_outcome, only_text}
use Rattle.command_socket_serve.specs.Refusals.{refused_line}
use Rattle.command_socket_serve.specs.Requests.{is_request}
use Rattle.command_socket_serve.specs.declared.connection.TheConstants.{MOST_READ}
use Rattle.command_socket_serve.specs.declared.line.Next.{Next}
use Rattle.command_socket_serve.specs.declared.line.Next.TheVariants as next

-- the line that ends an answer
abbrev pub empty_line : List ℕ
empty_line = codes "\n"

-- an outcome with the end of its answer
abbrev pub ended : Outcome → Outcome
ended outcome = both outcome (only_text empty_line)

-- the commands are answered one after another, each as the desks stand behind those before it
abbrev pub AreAnswered : {D : Type 0} → (D → DeskSeen) → ConsoleView → List (Result SocketCommand CommandFault) → List D → List D → Outcome → Type 0
AreAnswered seen console [] desks used outcome = (used ≡ desks) × (outcome ≡ no_outcome)
AreAnswered {D} seen console (command ∷ more) desks used outcome =
    (between : List D) × (first : Outcome) × (rest : Outcome) × (outcome ≡ both (ended first) rest)
    × Answers seen console (looked_up console.config command) desks between first
    × AreAnswered seen console more between used rest

-- ---- stop

abbrev pub is_stop : Result SocketCommand CommandFault → Bool
is_stop (Ok (Plain Stop)) = true
is_stop _ = false

-- whether the program goes on behind these commands
abbrev pub next_behind : List (Result SocketCommand CommandFault) → Next
next_behind commands = if list_any is_stop commands then next.Stop else next.GoOn

-- ---- the line

-- The commands of a line, and their faults. A line with which a request of HTTP begins is one fault, whatever stands in it
abbrev pub asked_in : List ℕ → List (Result SocketCommand CommandFault)
asked_in line = if is_request line then Err UnknownCommand ∷ [] else socket_commands_of line

-- there is not memory enough for the line's commands, of which none is carried out
pub record LacksMemory {D : Type 0} (desks used : List D) (outcome : Outcome) (following : Next) : Type 0 where
  pub outcome_is : outcome ≡ ended (only_text (refused_line Memory))
  pub kept : used ≡ desks
  pub goes_on : following ≡ next.GoOn

-- all commands of the line are answered
pub record AnswersAll {D : Type 0} (seen : D → DeskSeen) (console : ConsoleView) (line : List ℕ) (desks used : List D) (outcome : Outcome)
    (following : Next) : Type 0 where
  pub answered : AreAnswered seen console (asked_in line) desks used outcome
  pub next_is : following ≡ next_behind (asked_in line)

abbrev pub AnswersLine : {D : Type 0} → (D → DeskSeen) → ConsoleView → List ℕ → List D → List D → Next → Outcome → Type 0
AnswersLine seen console line desks used following outcome =
    AnswersAll seen console line desks used outcome following ⊎ LacksMemory desks used outcome following

-- ---- a connection

-- what is read of a connection: its first line with the end, or as much as shows that it is too long
abbrev pub text_of_input : List ℕ → List ℕ
text_of_input input = take_through 10 (take MOST_READ input)

-- the line without its end, which is a line feed (10) or a carriage return (13) and a line feed
abbrev pub line_in : List ℕ → List ℕ
line_in text = if ends_with_byte 10 text then strip_last 13 (strip_last 10 text) else text

-- the text is that of what the client sends, where that is known
abbrev pub IsTextOf : Option (List ℕ) → List ℕ → Type 0
IsTextOf input text = IfSome input (λ bytes. text ≡ text_of_input bytes)

-- the line of the text is answered
pub record AnswersText {D : Type 0} (seen : D → DeskSeen) (console : ConsoleView) (text : List ℕ) (desks used : List D)
    (told_before told_after : Option (List ℕ)) (following : Next) : Type 0 where
  pub outcome : Outcome
  pub answers : AnswersLine seen console (line_in text) desks used following outcome
  pub told : Grows told_before told_after outcome.changed

-- the client is let go: nothing is asked of any desk, and nobody is told
pub record LetsGo {D : Type 0} (desks used : List D) (told_before told_after : Option (List ℕ)) (following : Next) : Type 0 where
  pub kept : used ≡ desks
  pub untold : told_after ≡ told_before
  pub goes_on : following ≡ next.GoOn

-- the first line of what the client sends is answered, or the client is let go
abbrev pub Serves : {D : Type 0} → (D → DeskSeen) → ConsoleView → Option (List ℕ) → List D → List D → Option (List ℕ) → Option (List ℕ) → Next → Type 0
Serves seen console input desks used told_before told_after following =
    ((text : List ℕ) × IsTextOf input text × AnswersText seen console text desks used told_before told_after following)
    ⊎ LetsGo desks used told_before told_after following
