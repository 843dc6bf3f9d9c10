use Rattle.std.proofs.Common.{◌≡◌, ◌∙◌, subst}
use Rattle.dual_cert_plan.specs.Plans.{PlanParts}
use Rattle.dual_cert_plan.specs.Sheets.{SheetParts}
use Rattle.flow_planner_law.specs.Accepted.{IsAccepted}
use Rattle.lb_desk_model.specs.declared.event.Event.TheVariants.{Snapshot, Install}
use Rattle.lb_desk_model.specs.declared.reply.Reply.{Reply}
use Rattle.lb_desk_model.specs.declared.reply.Reply.TheVariants.{Sheet, Installed}
use Rattle.lb_desk_model.specs.Seen.{Seen, Steps}
use Rattle.pin_set.specs.Rows.{rows_score}
use Rattle.lb_desk_step.proofs.Planned.{installed_at, not_a_sheet, plans_of}
use Rattle.lb_desk_step.proofs.planning.plan_for.Goals as goal

pub unreachable-requires : goal.unreachable-requires
unreachable-requires g c =
    not_a_sheet c.args.core.now.shown c.args.core.now.shown c.in_ok-sheet.field-0 c.requires.reached c.in_ok-sheet.ensures.steps c.in_default.not-Sheet

pub unreachable-requires-in_default-2 : goal.unreachable-requires-in_default-2
unreachable-requires-in_default-2 g c =
    let old = c.args.core.now.shown in
    let snapshot : Steps old Snapshot (Sheet c.in-Sheet.sheet) old =
    subst (λ (r : Reply). Steps old Snapshot r old) c.in-Sheet.is c.in_ok-sheet.ensures.steps in
    let plan = c.into_plan.result in
    let accepted : IsAccepted c.in-Sheet.sheet plan =
    subst (λ (s : SheetParts). IsAccepted s plan) c.deref.ensures (rw c.into_plan.ensures.exact c.in_ok-plan.ensures.accepted) in
    let versions : plan.version ≡ c.in-Sheet.sheet.version =
    subst (λ (s : SheetParts). plan.version ≡ s.version) c.deref.ensures (rw c.into_plan.ensures.exact c.in_ok-plan.ensures.version) in
    let shared : c.deref-2.result.now ≡ plan = c.deref-2.ensures ∙ c.in_ok-plan-2.ensures in
    let steps : Steps old (Install plan) c.in_ok-score.field-0 c.install.new.self.shown =
    subst (λ (p : PlanParts). Steps old (Install p) c.in_ok-score.field-0 c.install.new.self.shown) shared c.in_ok-score.ensures.steps in
    c.in_default-2.not-Installed (rows_score plan.rows)
    (installed_at old old c.install.new.self.shown c.in-Sheet.sheet plan c.in_ok-score.field-0 c.requires.reached snapshot accepted versions steps)

pub returns-clause-plans : goal.returns-clause-plans
returns-clause-plans g c =
    let old = c.args.core.now.shown in
    let new = c.install.new.self.shown in
    let plan = c.into_plan.result in
    let snapshot : Steps old Snapshot (Sheet c.in-Sheet.sheet) old =
    subst (λ (r : Reply). Steps old Snapshot r old) c.in-Sheet.is c.in_ok-sheet.ensures.steps in
    let accepted : IsAccepted c.in-Sheet.sheet plan =
    subst (λ (s : SheetParts). IsAccepted s plan) c.deref.ensures (rw c.into_plan.ensures.exact c.in_ok-plan.ensures.accepted) in
    let versions : plan.version ≡ c.in-Sheet.sheet.version =
    subst (λ (s : SheetParts). plan.version ≡ s.version) c.deref.ensures (rw c.into_plan.ensures.exact c.in_ok-plan.ensures.version) in
    let shared : c.deref-2.result.now ≡ plan = c.deref-2.ensures ∙ c.in_ok-plan-2.ensures in
    let install : Steps old (Install plan) (Installed c.in-Installed.score) new =
    subst (λ (r : Reply). Steps old (Install plan) r new) c.in-Installed.is
    (subst (λ (p : PlanParts). Steps old (Install p) c.in_ok-score.field-0 new) shared c.in_ok-score.ensures.steps) in
    rw c.in_ok-plan-2.ensures (plans_of old new c.in-Sheet.sheet plan c.in-Installed.score snapshot accepted versions install)
