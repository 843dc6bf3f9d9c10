-- A plan that is made for what is shown, and installed there.
use Rattle.std.proofs.Common.{◌≡◌, ◌<◌, ◌^◌, ℕ, ◌+◌, Bool, true, false, ◌&&◌, leb, List, length, refl, sym, ap, ◌∙◌, subst, arith}
use Rattle.std.specs.Prelude.{sum}
use Rattle.std.proofs.lemmas.Bool.{lt-leb}
use Rattle.pin_set.specs.declared.totals.Score.{Score}
use Rattle.pin_set.specs.Rows.{rows_score}
use Rattle.dual_cert_plan.specs.Plans.{PlanParts}
use Rattle.dual_cert_plan.specs.Sheets.{SheetParts}
use Rattle.flow_planner_law.specs.Accepted.{IsAccepted}
use Rattle.lb_desk_model.specs.declared.entry.Entry.{Entry}
use Rattle.lb_desk_model.specs.declared.event.Event.TheVariants.{Snapshot, Install}
use Rattle.lb_desk_model.specs.declared.reply.Reply.{Reply}
use Rattle.lb_desk_model.specs.declared.reply.Reply.TheVariants.{Sheet, Installed}
use Rattle.lb_desk_model.specs.Installs.{IsSheetOf}
use Rattle.lb_desk_model.specs.Seen.{Seen, Steps, seen}
use Rattle.lb_desk_model.specs.States.{State}
use Rattle.lb_desk_model.specs.Steps.{Does}
use Rattle.lb_desk_model.specs.Worn.{open_connections}
use Rattle.lb_desk_law.specs.Worlds.{entry}
use Rattle.lb_desk_law.proofs.Installs.{outcome, outcome-best}
use Rattle.lb_desk_seen.proofs.Logged.{accepted_now}
use Rattle.lb_desk_core.specs.Core.{CoreView, IsReached}
use Rattle.lb_desk_ports.specs.Movers.{IsPlanFor}
use Rattle.lb_desk_tail.specs.Tail.{TailView, with_entry}
use Rattle.lb_desk_step.specs.Desk.{DeskView, taken}
use Rattle.lb_desk_step.specs.Parts.{AgreeParts, desk_of}
use Rattle.lb_desk_step.specs.Planning.{IsBestSince, Plans, PlansNow, is_worn_for_two}
use Rattle.lb_desk_step.proofs.Stepping.{EndsLog, one_taken, parts_further, takes_of}

-- ---- at what is shown

pub sheet_at : (old new : Seen) (sheet : SheetParts) → (reached : IsReached old) → Steps old Snapshot (Sheet sheet) new → IsSheetOf reached.reaches.state sheet
sheet_at old new sheet reached steps = (steps reached.reaches.state reached.reaches.is).step.does.0

-- a snapshot is answered by a sheet
snapshot_reply : (old : State) (reply : Reply) (acted : State) → Does old Snapshot reply acted → ((sheet : SheetParts) → reply ≡ Sheet sheet → ⊥) → ⊥
snapshot_reply old (Sheet sheet) acted d none = none sheet refl
snapshot_reply old reply acted d none = d

pub not_a_sheet : (old new : Seen) (reply : Reply) → IsReached old → Steps old Snapshot reply new
    → ((sheet : SheetParts) → reply ≡ Sheet sheet → ⊥) → ⊥
not_a_sheet old new reply reached steps none =
    let after = steps reached.reaches.state reached.reaches.is in
    snapshot_reply reached.reaches.state reply after.step.acted after.step.does none

-- the plan is installed
pub installed_at : (old middle new : Seen) (sheet : SheetParts) (plan : PlanParts) (reply : Reply) → IsReached old → Steps old Snapshot (Sheet sheet) middle
    → IsAccepted sheet plan → plan.version ≡ sheet.version → Steps old (Install plan) reply new → reply ≡ Installed (rows_score plan.rows)
installed_at old middle new sheet plan reply reached snapshot accepted versions install =
    let state = reached.reaches.state in
    let after = install state reached.reaches.is in
    accepted_now state sheet plan (rows_score plan.rows) reply after.next (sheet_at old middle sheet reached snapshot)
    (record { version = versions; accepted = accepted.accepted }) after.step

best_since : (old new : Seen) (plan : PlanParts) (score : Score) → Steps old (Install plan) (Installed score) new → IsBestSince old score new
best_since old new plan score install state is =
    let after = install state is in
    let best = outcome-best state plan score after.next (outcome state plan (Installed score) score after.next after.step refl) in
    (after.next, after.shown, best.0, best.1)

pub plans_of : (old new : Seen) (sheet : SheetParts) (plan : PlanParts) (score : Score) → Steps old Snapshot (Sheet sheet) old
    → IsAccepted sheet plan → plan.version ≡ sheet.version → Steps old (Install plan) (Installed score) new → Plans old sheet plan score new
plans_of old new sheet plan score snapshot accepted versions install = record {
  snapshot = snapshot;
  fit = record { version = versions; accepted = rw accepted.accepted refl };
  install = install;
  best = best_since old new plan score install;
}

-- ---- two entries

fresh_below : (shown : Seen) (entries : ℕ) → entries + open_connections shown < 2 ^ 63
    → (leb (2 ^ 63) (entries + open_connections shown) && true) ≡ false
fresh_below shown entries room = ap (λ (b : Bool). b && true) (lt-leb (2 ^ 63) (entries + open_connections shown) room)

pub fresh_for_two : (core : CoreView) (journal : TailView Entry) (open_ones : ℕ) → AgreeParts core journal open_ones
    → taken (desk_of core journal) + 1 + open_ones < 2 ^ 63 → is_worn_for_two (desk_of core journal) ≡ false
fresh_for_two core journal open_ones parts room =
    let counted = parts.counted in
    fresh_below core.shown (taken (desk_of core journal) + 1) (omega arith)

-- what the two entries leave
pub record AreKept (old new : CoreView) (before after : TailView Entry) (open_ones : ℕ) (sheet : SheetParts) (plan : PlanParts) (score : Score) : Type 0 where
  pub parts : AgreeParts new after open_ones
  pub plans : PlansNow (desk_of old before) score (desk_of new after)
  pub of_sheet : plans.sheet ≡ sheet
  pub of_plan : plans.plan ≡ plan

pub two_further : (old new : CoreView) (before between after : TailView Entry) (open_ones : ℕ) (sheet : SheetParts) (plan : PlanParts) (score : Score)
    → AgreeParts old before open_ones → taken (desk_of old before) + 1 + open_ones < 2 ^ 63 → Plans old.shown sheet plan score new.shown
    → new.shown.connections ≡ old.shown.connections → new.uses ≡ old.uses
    → between ≡ with_entry before (entry Snapshot (Sheet sheet)) → EndsLog before (entry Snapshot (Sheet sheet)) between
    → after ≡ with_entry between (entry (Install plan) (Installed score)) → EndsLog between (entry (Install plan) (Installed score)) after
    → AreKept old new before after open_ones sheet plan score
two_further old new before between after open_ones sheet plan score parts room plans connections uses first first_ends second second_ends =
    let counted = parts.counted in
    let fresh = fresh_below old.shown (taken (desk_of old before)) (omega arith) in
    let middle = parts_further old old before between open_ones open_ones Snapshot (Sheet sheet) parts
    (record { steps = plans.snapshot; connects = refl; uses = omega arith }) fresh first_ends parts.counted in
    let many = one_taken old before between (entry Snapshot (Sheet sheet)) open_ones parts first_ends in
    let still_fresh = fresh_below old.shown (taken (desk_of old between)) (omega arith) in
    let same : open_connections new.shown ≡ open_connections old.shown = ap (λ (ns : List ℕ). sum ns) connections in
    record {
      parts = parts_further old new between after open_ones open_ones (Install plan) (Installed score) middle
          (record { steps = plans.install; connects = ap (λ (n : ℕ). n + 0) same; uses = omega arith }) still_fresh second_ends (omega arith);
      plans = record {
        sheet = sheet;
        plan = plan;
        plans = plans;
        between = desk_of old between;
        still = refl;
        snapshot = takes_of old old before between Snapshot (Sheet sheet) plans.snapshot first first_ends;
        install = takes_of old new between after (Install plan) (Installed score) plans.install second second_ends;
      };
      of_sheet = refl;
      of_plan = refl;
    }
