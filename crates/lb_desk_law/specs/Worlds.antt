-- Plans that were made for a snapshot of the history in which they are installed, among any other plans.
use Rattle.std.specs.Prelude.{◌≡◌, List, Contains, Ok}
use Rattle.pin_set.specs.declared.totals.Score.{Score}
use Rattle.dual_cert_plan.specs.Plans.{PlanParts}
use Rattle.dual_cert_plan.specs.Sheets.{SheetParts}
use Rattle.cert_check.specs.declared.fault.CheckFault.{CheckFault}
use Rattle.cert_check.specs.Verdict.{verdict}
use Rattle.lb_desk_model.specs.declared.entry.Entry.{Entry}
use Rattle.lb_desk_model.specs.declared.event.Event.{Event}
use Rattle.lb_desk_model.specs.declared.event.Event.TheVariants.{Snapshot, Install}
use Rattle.lb_desk_model.specs.declared.reply.Reply.{Reply}
use Rattle.lb_desk_model.specs.declared.reply.Reply.TheVariants.{Sheet, Refused}
use Rattle.lb_desk_model.specs.declared.reply.Refusal.TheVariants.{Bad}
use Rattle.lb_desk_model.specs.Backends.{BackendParts}
use Rattle.lb_desk_model.specs.Histories.{History}
use Rattle.lb_desk_model.specs.States.{State, opening}

abbrev pub entry : Event → Reply → Entry
entry event reply = record { event = event; reply = reply }

-- some snapshot among the entries was answered with a sheet that the check accepts the plan for, and whose version it has
pub record IsAccepted (entries : List Entry) (plan : PlanParts) : Type 0 where
  pub sheet : SheetParts
  pub taken : Contains entries (entry Snapshot (Sheet sheet))
  pub version : plan.version ≡ sheet.version
  pub score : Score
  pub accepted : verdict sheet plan ≡ Ok score

-- in every history, no install of such a plan is answered Bad
abbrev pub AcceptedAreNeverBad : Type 0
AcceptedAreNeverBad = (backend : BackendParts) (entries : List Entry) (end : State) (plan : PlanParts) (fault : CheckFault)
    → History (opening backend) entries end → IsAccepted entries plan → Contains entries (entry (Install plan) (Refused (Bad fault))) → ⊥
