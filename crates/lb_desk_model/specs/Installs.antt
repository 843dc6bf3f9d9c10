-- What planners see, and what a plan does. All of it is our own; a plan is a solution of the transportation problem, and
-- what its check asks of it stands in `cert_check`.
use Rattle.std.specs.Prelude.{◌≡◌, ℕ, Option, List, map, Result, Ok}
use Rattle.std.specs.List.{zip}
use Rattle.pin_set.specs.declared.totals.Score.{Score}
use Rattle.pin_set.specs.Rows.{Agrees, score_of}
use Rattle.pin_set.specs.Views.{ViewParts, kinds_of}
use Rattle.dual_cert_plan.specs.Plans.{PlanParts}
use Rattle.dual_cert_plan.specs.Sheets.{SheetParts, IsSheet}
use Rattle.cert_check_law.specs.Sheets.{StandsFor}
use Rattle.cert_check.specs.declared.fault.CheckFault.{CheckFault}
use Rattle.cert_check.specs.Verdict.{verdict}
use Rattle.pin_set.specs.declared.table_pin.TablePin.{TablePin}
use Rattle.lb_desk_model.specs.States.{State, view_of}

-- ---- at a view, where the table has this version

-- the sheet stands for the view, and has the version
pub record IsSheetAt (view : ViewParts) (current : ℕ) (sheet : SheetParts) : Type 0 where
  pub lawful : IsSheet sheet
  pub version : sheet.version ≡ current
  pub stands : StandsFor sheet view

-- the plan is checked against the sheet of the view, with this verdict
pub record JudgesAt (view : ViewParts) (current : ℕ) (plan : PlanParts) (answer : Result Score CheckFault) : Type 0 where
  pub sheet : SheetParts
  pub of : IsSheetAt view current sheet
  pub verdict : verdict sheet plan ≡ answer

-- The i-th pin of the view gets the i-th place, as the plan says. Which of the pins of one kind goes where is free
pub record InstallsAt (view : ViewParts) (current : ℕ) (plan : PlanParts) (score : Score) (places : List (Option ℕ)) : Type 0 where
  pub accepted : Score
  pub judges : JudgesAt view current plan (Ok accepted)
  pub agrees : Agrees plan.rows (kinds_of view) places
  pub score_is : score ≡ score_of (kinds_of view) places

-- ---- at a state

-- the sheet stands for the state's view, and has its version
abbrev pub IsSheetOf : State → SheetParts → Type 0
IsSheetOf state sheet = IsSheetAt (view_of state) state.version sheet

-- the plan is checked against the sheet of the state's view, with this verdict
abbrev pub Judges : State → PlanParts → Result Score CheckFault → Type 0
Judges state plan answer = JudgesAt (view_of state) state.version plan answer

-- the pin at another place, or at none
abbrev pub moved_to : TablePin → Option ℕ → TablePin
moved_to p place = record p { pin = record p.pin { place = place } }

-- the state where the i-th pin is at the i-th place
abbrev pub with_places : State → List (Option ℕ) → State
with_places state places = record state { pins = map (λ m. moved_to m.0 m.1) (zip state.pins places) }

-- each pin gets the place that the plan gives it
pub record Installs (old : State) (plan : PlanParts) (score : Score) (new : State) : Type 0 where
  pub places : List (Option ℕ)
  pub moves : InstallsAt (view_of old) old.version plan score places
  pub open moves use *
  pub new_is : new ≡ with_places old places
