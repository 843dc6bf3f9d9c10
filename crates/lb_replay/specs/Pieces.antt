-- A script in pieces: a piece is a line, or the lines of a plan's text.
use Rattle.std.specs.Prelude.{◌≡◌, ℕ, Bool, true, false, List, [], ◌∷◌, Option, Some, if◌then◌else◌}
use Rattle.lb_script.specs.declared.script_line.ScriptLine.{ScriptLine}
use Rattle.lb_script.specs.declared.script_line.ScriptLine.TheVariants.{PlanText}
use Rattle.lb_script.specs.Lines.{script_line}
use Rattle.lb_replay_lines.specs.Lines.{behind_end, through_end, without_end}
use Rattle.lb_replay.specs.Farms.{FarmView}

-- what the line asks for, if it is of a form
abbrev pub said_by : FarmView → List ℕ → Option ScriptLine
said_by farm line = script_line farm.config farm.own (without_end line)

abbrev pub is_plan_text : Option ScriptLine → Bool
is_plan_text (Some PlanText) = true
is_plan_text said = false

-- the piece that the line begins, which others follow: a plan's text runs through its line `end`
abbrev pub piece_at : FarmView → List ℕ → List (List ℕ) → List (List ℕ)
piece_at farm line more = if is_plan_text (said_by farm line) then line ∷ through_end more else line ∷ []

-- the lines behind it
abbrev pub behind_piece : FarmView → List ℕ → List (List ℕ) → List (List ℕ)
behind_piece farm line more = if is_plan_text (said_by farm line) then behind_end more else more

-- the lines are these pieces and, behind them, the lines that are left
abbrev pub AreCut : FarmView → List (List ℕ) → List (List (List ℕ)) → List (List ℕ) → Type 0
AreCut farm lines [] left = lines ≡ left
AreCut farm [] (piece ∷ pieces) left = ⊥
AreCut farm (line ∷ more) (piece ∷ pieces) left = (piece ≡ piece_at farm line more) × AreCut farm (behind_piece farm line more) pieces left
