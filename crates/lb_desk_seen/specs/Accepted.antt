-- Plans that are installed.
use Rattle.std.specs.Prelude.{◌≡◌, ◌≢◌, List, Ok}
use Rattle.pin_set.specs.declared.totals.Score.{Score}
use Rattle.dual_cert_plan.specs.Plans.{PlanParts}
use Rattle.dual_cert_plan.specs.Sheets.{SheetParts}
use Rattle.cert_check.specs.Verdict.{verdict}
use Rattle.lb_desk_model.specs.declared.entry.Entry.{Entry}
use Rattle.lb_desk_model.specs.declared.event.Event.TheVariants.{Install}
use Rattle.lb_desk_model.specs.declared.reply.Reply.{Reply}
use Rattle.lb_desk_model.specs.declared.reply.Reply.TheVariants.{Installed, Refused}
use Rattle.lb_desk_model.specs.declared.reply.Refusal.TheVariants.{Stale}
use Rattle.lb_desk_model.specs.Histories.{History}
use Rattle.lb_desk_model.specs.Installs.{IsSheetOf}
use Rattle.lb_desk_model.specs.States.{State, SameView, view_of}
use Rattle.lb_desk_model.specs.Steps.{Step}

-- two points of a history with one version have one view
abbrev pub OneViewAVersion : Type 0
OneViewAVersion = (point later : State) (since : List Entry) → History point since later → later.version ≡ point.version
    → SameView (view_of point) (view_of later)

-- the check accepts the plan for the sheet with this score, and the plan has the sheet's version
pub record IsAcceptedFor (sheet : SheetParts) (plan : PlanParts) (score : Score) : Type 0 where
  pub version : plan.version ≡ sheet.version
  pub accepted : verdict sheet plan ≡ Ok score

-- a plan that is accepted for the sheet of the view that stands is answered Installed, with the check's score
abbrev pub AcceptedNow : Type 0
AcceptedNow = (old : State) (sheet : SheetParts) (plan : PlanParts) (score : Score) (reply : Reply) (new : State)
    → IsSheetOf old sheet → IsAcceptedFor sheet plan score → Step old (Install plan) reply new → reply ≡ Installed score

-- one that was accepted at an earlier point is answered Installed, with that score, where the version is still the point's, and
-- Stale elsewhere
abbrev pub AcceptedBefore : Type 0
AcceptedBefore = (point old : State) (since : List Entry) (sheet : SheetParts) (plan : PlanParts) (score : Score) (reply : Reply) (new : State)
    → History point since old → IsSheetOf point sheet → IsAcceptedFor sheet plan score → Step old (Install plan) reply new
    → (old.version ≡ point.version → reply ≡ Installed score) × (old.version ≢ point.version → reply ≡ Refused Stale)
