-- What an evacuation asks of its mover: sheets and plans in turn. The entries are those of the mover, each an event with its
-- reply. Our own words.
use Rattle.std.specs.Prelude.{◌≡◌, ◌⊎◌, ◌<◌, ◌+◌, ℕ, ⊤, List, [], ◌∷◌, ◌++◌, length, Result, Ok, Err}
use Rattle.pin_set.specs.declared.totals.Score.{Score}
use Rattle.dual_cert_plan.specs.Plans.{PlanParts}
use Rattle.dual_cert_plan.specs.Sheets.{SheetParts}
use Rattle.lb_desk_model.specs.declared.entry.Entry.{Entry}
use Rattle.lb_desk_model.specs.declared.event.Event.TheVariants.{Snapshot, Install}
use Rattle.lb_desk_model.specs.declared.reply.Reply.TheVariants.{Sheet}
use Rattle.lb_desk_ports.specs.declared.refused.Refused.{Refused}
use Rattle.lb_desk_ports.specs.declared.refused.Refused.TheVariants.{Memory}
use Rattle.lb_desk_ports.specs.declared.replies.Installing.{Installing}
use Rattle.lb_desk_ports.specs.declared.replies.Installing.TheVariants.{Installed, Stale}
use Rattle.lb_desk_ports.specs.Calls.{entry, counted}
use Rattle.lb_desk_ports.specs.Movers.{IsPlanFor, PlansNow, installing_reply}
use Rattle.lb_desk_evacuate.specs.declared.evacuating.Evacuation.{Evacuation}
use Rattle.lb_desk_evacuate.specs.declared.evacuating.Evacuation.TheVariants.{Done, AllStale}

-- a sheet, a plan for it, and what that was answered
pub record Try : Type 0 where
  pub sheet : SheetParts
  pub plan : PlanParts
  pub fit : IsPlanFor sheet plan
  pub answer : Installing

-- its two entries
abbrev pub entries_of : Try → List Entry
entries_of t = entry Snapshot (Sheet t.sheet) ∷ entry (Install t.plan) (installing_reply t.answer) ∷ []

abbrev pub all_entries : List Try → List Entry
all_entries [] = []
all_entries (t ∷ ts) = entries_of t ++ all_entries ts

-- the plan was not installed
abbrev pub Fails : Installing → Type 0
Fails (Installed score) = ⊥
Fails Stale = ⊤

abbrev pub AllFail : List Try → Type 0
AllFail [] = ⊤
AllFail (t ∷ ts) = Fails t.answer × AllFail ts

-- What a try adds. Where it is refused, the sheet may have been taken, and no plan was answered
abbrev pub AddsTry : Result Installing Refused → List Entry → List Entry → Type 0
AddsTry (Ok answer) old new = (t : Try) × (t.answer ≡ answer) × (new ≡ old ++ entries_of t)
AddsTry (Err refused) old new = (new ≡ old) ⊎ ((sheet : SheetParts) × (new ≡ old ++ entry Snapshot (Sheet sheet) ∷ []))

-- a try that answers this score has its plan installed
abbrev pub installing : Result Score Refused → Result Installing Refused
installing (Ok score) = Ok (Installed score)
installing (Err refused) = Err refused

-- The try behind so many that failed, which is the last one: others could get in before its install, or it was try number
-- `tries`, and they waited
abbrev pub IsLast : ℕ → ℕ → Result Score Refused → List Entry → List Entry → ℕ → ℕ → Type 0
IsLast tries failed answer old new planned planned_after =
    ((failed + 1 < tries) × AddsTry (installing answer) old new × (planned_after ≡ planned))
    ⊎ ((failed + 1 ≡ tries) × PlansNow old new answer × (planned_after ≡ counted planned))

-- how it ended, behind so many tries that failed. Only where none is allowed there is none
abbrev pub Ends : ℕ → ℕ → Result Evacuation Refused → List Entry → List Entry → ℕ → ℕ → Type 0
Ends tries failed (Ok (Done score)) old new planned planned_after = IsLast tries failed (Ok score) old new planned planned_after
Ends tries failed (Ok AllStale) old new planned planned_after =
    (tries ≡ 0) × (failed ≡ 0) × (new ≡ old) × (planned_after ≡ planned)
Ends tries failed (Err refused) old new planned planned_after = IsLast tries failed (Err refused) old new planned planned_after

-- what it did to a mover's entries, and to the count of how often that was asked to plan while all others wait
pub record Evacuates (tries : ℕ) (answer : Result Evacuation Refused) (old new : List Entry) (planned planned_after : ℕ) : Type 0 where
  -- the tries before the last one
  pub failed : List Try
  pub fail : AllFail failed
  pub ends : Ends tries (length failed) answer (old ++ all_entries failed) new planned planned_after

-- where it was refused, a call of the mover was, and is counted; or memory was wanting for a plan
abbrev pub CountsRefusal : {A : Type 0} → Result A Refused → ℕ → ℕ → Type 0
CountsRefusal (Ok answer) old new = new ≡ old
CountsRefusal (Err refused) old new = (new ≡ counted old) ⊎ ((refused ≡ Memory) × (new ≡ old))
