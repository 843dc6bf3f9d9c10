use Rattle.std.proofs.Common.{◌≡◌, true, false, sym, ap, ◌∙◌, arith}
use Rattle.dual_cert_plan.specs.Plans.{PlanParts}
use Rattle.dual_cert_plan.specs.Sheets.{SheetParts}
use Rattle.lb_desk_model.specs.declared.event.Event.TheVariants.{Snapshot, Install}
use Rattle.lb_desk_model.specs.declared.reply.Reply.TheVariants.{Sheet, Installed}
use Rattle.lb_desk_law.specs.Worlds.{entry}
use Rattle.lb_desk_step.specs.Planning.{is_worn_for_two}
use Rattle.lb_desk_step.proofs.Planned.{fresh_for_two, two_further}
use Rattle.lb_desk_step.proofs.desk.Desk.advance_by_plan.Goals as goal

pub invariant_of-self-2 : goal.invariant_of-self-2
invariant_of-self-2 g c =
    let p = c.self.inside in
    let found = c.in_ok-sheet in
    (two_further p.core c.plan_for.new.core p.journal c.keep-first.new.journal c.keep-second.new.journal p.connections found.field-0.sheet found.field-0.plan found.field-0.score
    c.self.invariant (omega (arith, c.next_number.ensures, c.if-next_number-self-ge-WORN.false)) found.ensures.plans found.ensures.connections found.ensures.uses
    c.keep-first.ensures.pushed c.keep-first.ensures.log c.keep-second.ensures.pushed c.keep-second.ensures.log).parts

pub returns-clause-takes : goal.returns-clause-takes
returns-clause-takes g c =
    let p = c.self.inside in
    let found = c.in_ok-sheet in
    let kept =
    two_further p.core c.plan_for.new.core p.journal c.keep-first.new.journal c.keep-second.new.journal p.connections found.field-0.sheet found.field-0.plan found.field-0.score
    c.self.invariant (omega (arith, c.next_number.ensures, c.if-next_number-self-ge-WORN.false)) found.ensures.plans found.ensures.connections found.ensures.uses
    c.keep-first.ensures.pushed c.keep-first.ensures.log c.keep-second.ensures.pushed c.keep-second.ensures.log in
    rw (← c.self.view_is) (record {
      plans = kept.plans;
      first = ap (λ (s : SheetParts). entry Snapshot (Sheet s)) (found.ensures.copies.0 ∙ sym kept.of_sheet);
      second = ap (λ (q : PlanParts). entry (Install q) (Installed found.field-0.score)) (found.ensures.copies.1 ∙ sym kept.of_plan);
    })

pub returns-clause-worn : goal.returns-clause-worn
returns-clause-worn g c =
    let p = c.self.inside in
    let fresh = fresh_for_two p.core p.journal p.connections c.self.invariant (omega (arith, c.next_number.ensures, c.if-next_number-self-ge-WORN.false)) in
    (λ e. absurd cc, λ e. let both : true ≡ false = sym e ∙ (ap is_worn_for_two (sym c.self.view_is) ∙ fresh) in absurd cc)
