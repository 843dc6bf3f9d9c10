-- What `replay` writes for the bytes of a configuration and of a script: a backend's day, told line by line.
use Rattle.std.specs.Prelude.{◌≡◌, ℕ, ⊤, ◌+◌, Bool, true, false, List, [], ◌∷◌, ◌++◌, Option, Some, None, Result, Ok, Err, length, map, flat_map, codes}
use Rattle.std.specs.Fmt.{decimal}
use Rattle.std.specs.Io.KnownBytes.{Appends}
use Rattle.lb_config_sections.specs.declared.cause.LocatedFault.{LocatedFault}
use Rattle.lb_config.specs.Configs.{config_in}
use Rattle.lb_config.specs.ConfigViews.{ConfigView}
use Rattle.lb_cli_faults.specs.Faults.{fault_line}
use Rattle.lb_desk_model.specs.declared.entry.Entry.{Entry}
use Rattle.lb_desk_step.specs.Desk.{StandsAt}
use Rattle.lb_script.specs.Backends.{only_place}
use Rattle.lb_replay_lines.specs.Lines.{lines_of}
use Rattle.lb_replay.specs.Farms.{FarmView, IsFarmAt}
use Rattle.lb_replay.specs.Days.{DayView, Outcome, opening_day}
use Rattle.lb_replay.specs.Pieces.{AreCut, said_by}
use Rattle.lb_replay.specs.Answers.{Answers, IsNotBad, is_bad}

-- a piece of the script, and what it came to
pub record Answered : Type 0 where
  pub lines : List (List ℕ)
  pub outcome : Outcome

-- what goes out on standard output and on standard error, and whether nothing hindered the replay
pub record Output : Type 0 where
  pub out : List ℕ
  pub err : List ℕ
  pub is_whole : Bool

-- the lines one behind the other
abbrev pub joined : List (List ℕ) → List ℕ
joined lines = flat_map (λ line. line) lines

-- the piece of these lines is answered so: its first line says what it asks for, and a plan for a snapshot's sheet is never refused as Bad
abbrev pub IsAnswered : FarmView → DayView → List (List ℕ) → Outcome → Type 0
IsAnswered farm day [] outcome = ⊥
IsAnswered farm day (line ∷ more) outcome =
    Answers farm day (joined (line ∷ more)) (said_by farm line) outcome × IsNotBad (said_by farm line) outcome

-- each piece is answered as the day stands behind those before it
abbrev pub AreAnswered : FarmView → DayView → List Answered → Type 0
AreAnswered farm day [] = ⊤
AreAnswered farm day (a ∷ more) = IsAnswered farm day a.lines a.outcome × AreAnswered farm a.outcome.day more

-- the day behind the pieces
abbrev pub day_behind : DayView → List Answered → DayView
day_behind day [] = day
day_behind day (a ∷ more) = day_behind a.outcome.day more

-- the log of all events
abbrev pub log_of : List Answered → List Entry
log_of done = flat_map (λ a. a.outcome.entries) done

-- what was printed
abbrev pub text_of : List Answered → List ℕ
text_of done = flat_map (λ a. a.outcome.text) done

-- how many lines the pieces have
abbrev pub line_count : List Answered → ℕ
line_count done = length (flat_map (λ a. a.lines) done)

abbrev pub bad_line : ℕ → List ℕ
bad_line number = codes "line " ++ decimal number ++ codes ": bad script line\n"

-- the replay ends behind all lines, or at a bad one, which is told by its number
abbrev pub Ends : FarmView → DayView → ℕ → List (List ℕ) → Output → Type 0
Ends farm day count [] output = (output.err ≡ []) × (output.is_whole ≡ true)
Ends farm day count (line ∷ more) output =
    (is_bad day (said_by farm line) ≡ true) × (output.err ≡ bad_line (count + 1)) × (output.is_whole ≡ false)

-- the script's lines in pieces, each with its answer
pub record IsReplay (farm : FarmView) (script : List ℕ) (output : Output) : Type 0 where
  pub done : List Answered
  pub left : List (List ℕ)
  pub cut : AreCut farm (lines_of script) (map (λ a. a.lines) done) left
  pub answered : AreAnswered farm (opening_day farm) done
  -- the log is a history of the backend from its opening on
  pub history : StandsAt farm.backend (log_of done) (day_behind (opening_day farm) done).desk
  pub out : output.out ≡ text_of done
  pub end : Ends farm (day_behind (opening_day farm) done) (line_count done) left output

-- ---- the configuration

-- what is written on standard error where none or several backends have servers
abbrev pub no_farm : Output
no_farm = record { out = []; err = codes "replay needs one backend\n"; is_whole = false }

abbrev pub ReplaysAt : Option ℕ → ConfigView → List ℕ → Output → Type 0
ReplaysAt None config script output = output ≡ no_farm
ReplaysAt (Some place) config script output = (farm : FarmView) × IsFarmAt config place farm × IsReplay farm script output

-- a configuration's fault is written as `check` writes it
abbrev pub ReplaysFor : Result ConfigView LocatedFault → List ℕ → Output → Type 0
ReplaysFor (Err fault) script output = output ≡ record { out = fault_line fault; err = []; is_whole = false }
ReplaysFor (Ok config) script output = ReplaysAt (only_place config.backends) config script output

-- what is written for the two texts
abbrev pub IsReplayOf : List ℕ → List ℕ → Output → Type 0
IsReplayOf config script output = ReplaysFor (config_in config) script output

-- an output of this kind went out, and whether it is whole is told
pub record Writes (Is : Output → Type 0) (is_whole : Bool) (old_out new_out old_err new_err : Option (List ℕ)) : Type 0 where
  pub output : Output
  pub is : Is output
  pub whole : output.is_whole ≡ is_whole
  pub out : Appends old_out new_out output.out
  pub err : Appends old_err new_err output.err
