-- What the calls of a mover make: events of the machine in `lb_desk_model`, each with its reply.
use Rattle.std.specs.Prelude.{◌≡◌, List, [], ◌∷◌, ◌++◌, Contains, Result, Ok, Err, IsOk}
use Rattle.pin_set.specs.declared.totals.Score.{Score}
use Rattle.dual_cert_plan.specs.Plans.{PlanParts}
use Rattle.dual_cert_plan.specs.Sheets.{SheetParts}
use Rattle.cert_check.specs.declared.fault.CheckFault.{CheckFault}
use Rattle.cert_check.specs.Verdict.{verdict}
use Rattle.lb_desk_model.specs.declared.entry.Entry.{Entry}
use Rattle.lb_desk_model.specs.declared.event.Event.TheVariants.{Snapshot, Install}
use Rattle.lb_desk_model.specs.declared.reply.Refusal.TheVariants as refusal
use Rattle.lb_desk_model.specs.declared.reply.Reply.{Reply}
use Rattle.lb_desk_model.specs.declared.reply.Reply.TheVariants as reply
use Rattle.lb_desk_ports.specs.Calls.{entry}
use Rattle.lb_desk_ports.specs.declared.refused.Refused.{Refused}
use Rattle.lb_desk_ports.specs.declared.replies.Installing.{Installing}
use Rattle.lb_desk_ports.specs.declared.replies.Installing.TheVariants as installing

-- the reply to a plan
abbrev pub installing_reply : Installing → Reply
installing_reply (installing.Installed score) = reply.Installed score
installing_reply installing.Stale = reply.Refused refusal.Stale

-- the entries that taking a sheet adds
abbrev pub snapshot_entries : Result SheetParts Refused → List Entry
snapshot_entries (Ok sheet) = entry Snapshot (reply.Sheet sheet) ∷ []
snapshot_entries (Err refused) = []

-- the entries that handing in a plan adds
abbrev pub installing_entries : PlanParts → Result Installing Refused → List Entry
installing_entries plan (Ok answer) = entry (Install plan) (installing_reply answer) ∷ []
installing_entries plan (Err refused) = []

-- the plan is for the sheet: it has the sheet's version, and passes the check
pub record IsPlanFor (sheet : SheetParts) (plan : PlanParts) : Type 0 where
  pub version : plan.version ≡ sheet.version
  pub accepted : IsOk (verdict sheet plan)

-- the plan is for a sheet that was given before: a snapshot among the entries was answered with that sheet
pub record IsPlanned (entries : List Entry) (plan : PlanParts) : Type 0 where
  pub sheet : SheetParts
  pub given : Contains entries (entry Snapshot (reply.Sheet sheet))
  pub fit : IsPlanFor sheet plan

-- no plan for a sheet that was given is answered Bad
abbrev pub NoneIsBad : List Entry → Type 0
NoneIsBad entries = (plan : PlanParts) (fault : CheckFault) → IsPlanned entries plan
    → Contains entries (entry (Install plan) (reply.Refused (refusal.Bad fault))) → ⊥

-- Planning while all others wait adds two entries: that of a sheet, and that of a plan for it, which was installed
abbrev pub PlansNow : List Entry → List Entry → Result Score Refused → Type 0
PlansNow old new (Ok score) =
    (sheet : SheetParts) × (plan : PlanParts) × IsPlanFor sheet plan
    × (new ≡ old ++ entry Snapshot (reply.Sheet sheet) ∷ entry (Install plan) (reply.Installed score) ∷ [])
PlansNow old new (Err refused) = new ≡ old
