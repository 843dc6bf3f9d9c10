-- What a line of a replay script asks for. The forms are our own; the words of each event are those by which the journal tells it.
use Rattle.std.specs.Prelude.{ℕ, Bool, true, false, ◌==◌, ◌||◌, List, [], ◌∷◌, length, codes, Option, Some, None, bytes_eq, if◌then◌else◌}
use Rattle.std.specs.Option.{option_map, option_or}
use Rattle.lb_types_text.specs.Parts.{parts}
use Rattle.lb_config.specs.ConfigViews.{BackendView, ConfigView}
use Rattle.lb_config.specs.Finds.{server_place}
use Rattle.lb_desk_model.specs.declared.event.Event.TheVariants as Asks
use Rattle.lb_script.specs.declared.keyword.Keyword.{Keyword}
use Rattle.lb_script.specs.declared.keyword.Keyword.TheVariants as First
use Rattle.lb_script.specs.declared.script_line.ScriptLine.{ScriptLine}
use Rattle.lb_script.specs.declared.script_line.ScriptLine.TheVariants.{Blank, Event, Snapshot, Install, PlanNow, PlanText}
use Rattle.lb_script.specs.Operators.{operator_line}
use Rattle.lb_script.specs.Requests.{request_in}
use Rattle.lb_script.specs.SetPins.{set_in, clear_in}
use Rattle.lb_script.specs.Words.{Word, ◌>>=◌, at_end, number_in, only_word}

-- ---- the words behind the first

-- a server alone
abbrev pub server_in : BackendView → List Word → Option ℕ
server_in backend words = only_word words >>= server_place backend.servers

-- a moment alone
abbrev pub moment_in : List Word → Option ℕ
moment_in words = only_word words >>= number_in

-- how a check ended
unfoldable pub result_in : Word → Option Bool
result_in word = if bytes_eq word (codes "ok") then Some true else if bytes_eq word (codes "fail") then Some false else None

-- a server, and how its check ended
unfoldable pub checked_in : BackendView → List Word → Option (ℕ × Bool)
checked_in backend (server ∷ result ∷ []) = do
  place ← server_place backend.servers server
  succeeded ← result_in result
  Some (place, succeeded)
checked_in backend _ = None

abbrev pub counted : ℕ → Option ℕ
counted number = if number == 0 then None else Some number

-- the number of a sheet that was kept: they are counted from 1
abbrev pub kept_in : List Word → Option ℕ
kept_in words = only_word words >>= number_in >>= counted

-- the word is a version of plans' texts
abbrev pub is_version : Word → Bool
is_version word = bytes_eq word (codes "1") || bytes_eq word (codes "2")

-- a version alone begins a plan's text
abbrev pub plan_text_in : List Word → Option ScriptLine
plan_text_in words = only_word words >>= λ word. if is_version word then Some PlanText else None

-- ---- the line

-- the first word of a form that isn't an operator's command
unfoldable pub keyword_in : Word → Option Keyword
keyword_in word =
    if bytes_eq word (codes "serve") then Some First.Serve
    else if bytes_eq word (codes "set") then Some First.Set
    else if bytes_eq word (codes "clear") then Some First.Clear
    else if bytes_eq word (codes "open") then Some First.Open
    else if bytes_eq word (codes "close") then Some First.Close
    else if bytes_eq word (codes "expire") then Some First.Expire
    else if bytes_eq word (codes "check") then Some First.Check
    else if bytes_eq word (codes "snapshot") then Some First.Snapshot
    else if bytes_eq word (codes "install") then Some First.Install
    else if bytes_eq word (codes "plan") then Some First.Plan
    else if bytes_eq word (codes "stickyplan") then Some First.PlanText
    else None

-- what the words behind it ask for
unfoldable pub asked_by : BackendView → Keyword → List Word → Option ScriptLine
asked_by backend First.Serve words = option_map (λ request. Event (Asks.Serve request)) (request_in backend words)
asked_by backend First.Set words = option_map (λ set. Event (Asks.Set set)) (set_in backend words)
asked_by backend First.Clear words = option_map (λ name. Event (Asks.Clear name)) (clear_in backend words)
asked_by backend First.Open words = option_map (λ server. Event (Asks.Open server)) (server_in backend words)
asked_by backend First.Close words = option_map (λ server. Event (Asks.Close server)) (server_in backend words)
asked_by backend First.Expire words = option_map (λ moment. Event (Asks.Expire moment)) (moment_in words)
asked_by backend First.Check words = option_map (λ check. Event (Asks.Check check.0 check.1)) (checked_in backend words)
asked_by backend First.Snapshot words = at_end Snapshot words
asked_by backend First.Install words = option_map (λ number. Install number) (kept_in words)
asked_by backend First.Plan words = at_end PlanNow words
asked_by backend First.PlanText words = plan_text_in words

abbrev pub said_under : ConfigView → BackendView → List ℕ → Option Keyword → List Word → Option ScriptLine
-- an operator's command begins with `set` too, and no line is both
said_under config backend line (Some First.Set) words = option_or (asked_by backend First.Set words) (operator_line config line)
said_under config backend line (Some keyword) words = asked_by backend keyword words
said_under config backend line None words = operator_line config line

-- what the words say. Under another first word the line may be an operator's command, with words and spaces of its own
abbrev pub said_in : ConfigView → BackendView → List ℕ → List Word → Option ScriptLine
said_in config backend line [] = None
said_in config backend line (first ∷ words) = said_under config backend line (keyword_in first) words

-- what the line asks for, if it is of a form
unfoldable pub script_line : ConfigView → BackendView → List ℕ → Option ScriptLine
script_line config backend line = if length line == 0 then Some Blank else said_in config backend line (parts 32 line)
