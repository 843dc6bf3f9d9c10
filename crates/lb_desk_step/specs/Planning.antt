-- A plan that is made and installed while nobody else gets in: two events in one go, a Snapshot and an Install.
use Rattle.std.specs.Prelude.{◌≡◌, ◌+◌, Bool}
use Rattle.pin_set.specs.declared.totals.Score.{Score}
use Rattle.pin_set.specs.Assignments.{IsBest}
use Rattle.pin_set.specs.Rows.{score_of}
use Rattle.pin_set.specs.Views.{capacities, kinds_of}
use Rattle.dual_cert_plan.specs.Plans.{PlanParts}
use Rattle.dual_cert_plan.specs.Sheets.{SheetParts}
use Rattle.lb_desk_model.specs.declared.event.Event.TheVariants.{Snapshot, Install}
use Rattle.lb_desk_model.specs.declared.reply.Reply.TheVariants.{Sheet, Installed}
use Rattle.lb_desk_model.specs.Seen.{Seen, Steps, seen}
use Rattle.lb_desk_model.specs.States.{State, view_of}
use Rattle.lb_desk_model.specs.Worn.{is_worn}
use Rattle.lb_desk_law.specs.Headline.{places_of}
use Rattle.lb_desk_law.specs.Worlds.{entry}
use Rattle.lb_desk_ports.specs.Movers.{IsPlanFor}
use Rattle.lb_desk_step.specs.declared.taken.TakenPlan.{TakenPlan}
use Rattle.lb_desk_step.specs.Desk.{DeskView, Takes, taken}

-- the second of two events in one go would find the desk worn
abbrev pub is_worn_for_two : DeskView → Bool
is_worn_for_two desk = is_worn desk.shown (taken desk + 1) Snapshot

-- whichever state was shown, a state is shown now whose places are best for the view of the earlier one, and this is their score
abbrev pub IsBestSince : Seen → Score → Seen → Type 0
IsBestSince old score new = (state : State) → seen state ≡ old → (next : State) × (seen next ≡ new)
    × IsBest (capacities (view_of state)) (kinds_of (view_of state)) (places_of next)
    × (score ≡ score_of (kinds_of (view_of state)) (places_of next))

-- a plan for the sheet of what is shown is installed there
pub record Plans (old : Seen) (sheet : SheetParts) (plan : PlanParts) (score : Score) (new : Seen) : Type 0 where
  pub snapshot : Steps old Snapshot (Sheet sheet) old
  pub fit : IsPlanFor sheet plan
  pub install : Steps old (Install plan) (Installed score) new
  pub best : IsBestSince old score new

-- the desk has taken both events
pub record PlansNow (old : DeskView) (score : Score) (new : DeskView) : Type 0 where
  pub sheet : SheetParts
  pub plan : PlanParts
  pub plans : Plans old.shown sheet plan score new.shown
  pub between : DeskView
  pub still : between.shown ≡ old.shown
  pub snapshot : Takes old Snapshot (Sheet sheet) between
  pub install : Takes between (Install plan) (Installed score) new

-- these are the two events and their replies
pub record TakesPlan (old : DeskView) (done : TakenPlan) (new : DeskView) : Type 0 where
  pub plans : PlansNow old done.score new
  pub first : done.snapshot ≡ entry Snapshot (Sheet plans.sheet)
  pub second : done.install ≡ entry (Install plans.plan) (Installed done.score)
