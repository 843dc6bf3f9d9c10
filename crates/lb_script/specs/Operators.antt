-- Operators' commands in a script: HAProxy Management Guide 2.8, section 9.3. Of a line there is exactly one command, which stands
-- alone or between semicolons that are empty else. Plans and the end of the program are asked for in other ways.
use Rattle.std.specs.Prelude.{ℕ, Bool, true, false, List, [], ◌∷◌, Option, Some, None, Result, Ok, Err, if◌then◌else◌}
use Rattle.command_socket_words.specs.Commands.{commands_of}
use Rattle.command_socket_words.specs.declared.command.Command.{Command}
use Rattle.command_socket_words.specs.declared.command.Command.TheVariants as Says
use Rattle.command_socket_words.specs.declared.fault.CommandFault.{CommandFault}
use Rattle.command_socket.specs.Resolved.{resolved}
use Rattle.command_socket.specs.declared.resolved.Resolved.{Resolved}
use Rattle.command_socket.specs.declared.resolved.Resolved.TheVariants as Is
use Rattle.lb_config.specs.ConfigViews.{ConfigView}
use Rattle.lb_desk_model.specs.declared.event.Event.TheVariants as Asks
use Rattle.lb_script.specs.declared.script_line.ScriptLine.{ScriptLine}
use Rattle.lb_script.specs.declared.script_line.ScriptLine.TheVariants.{Event, Show, Refused}

-- a script may have the command: all but `plan backend` and `stop`
abbrev pub is_scripted : Command → Bool
is_scripted (Says.Set name setting) = true
is_scripted (Says.Show what name) = true
is_scripted (Says.Plan name) = false
is_scripted Says.Stop = false

-- A change is an event. What names a backend or a server that isn't there is refused
abbrev pub line_of : Result Resolved CommandFault → Option ScriptLine
line_of (Ok (Is.Change backend change)) = Some (Event (Asks.Command change))
line_of (Ok (Is.Show what backend)) = Some (Show what backend)
line_of (Ok (Is.Plan backend)) = None
line_of (Ok Is.Stop) = None
line_of (Err fault) = Some (Refused fault)

unfoldable pub commanded : ConfigView → Command → Option ScriptLine
commanded config command = if is_scripted command then line_of (resolved config command) else None

-- the only command, if it was read
abbrev pub only_command : ConfigView → List (Result Command CommandFault) → Option ScriptLine
only_command config (Ok command ∷ []) = commanded config command
only_command config _ = None

unfoldable pub operator_line : ConfigView → List ℕ → Option ScriptLine
operator_line config line = only_command config (commands_of line)
