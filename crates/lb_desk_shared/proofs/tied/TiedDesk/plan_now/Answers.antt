use Rattle.std.proofs.Common.{◌≡◌, length, sym, ap, ◌∙◌, subst}
use Rattle.lb_desk_model.specs.declared.entry.Entry.{Entry}
use Rattle.lb_desk_step.specs.Desk.{StandsAt}
use Rattle.lb_desk_tie.specs.Receipts.{IsSound, KeeperView, with_entry}
use Rattle.lb_desk_shared.proofs.Standing.{adds_plan, same_size_by_plan, sees_now, stands_by_plan}
use Rattle.lb_desk_shared.proofs.tied.TiedDesk.plan_now.Goals as goal

pub invariant_of-self-2 : goal.invariant_of-self-2
invariant_of-self-2 g c =
    let p = c.self.inside in
    let taken = c.in-Ok.taken in
    let size : c.advance_by_plan.new.self.journal.capacity ≡ g.B.Naming.journal_size p.keeper.number =
    same_size_by_plan p.desk c.advance_by_plan.new.self taken c.in-Ok.ensures.takes ∙ c.self.invariant.1 in
    subst (λ (k : KeeperView Entry). StandsAt (g.B.Naming.opening k.number) k.history c.advance_by_plan.new.self
    × (c.advance_by_plan.new.self.journal.capacity ≡ g.B.Naming.journal_size k.number))
    (sym (c.record-2.ensures.keeper ∙ ap (λ (k : KeeperView Entry). with_entry k taken.install) c.record.ensures.keeper)) (
      stands_by_plan (g.B.Naming.opening p.keeper.number) p.keeper.history p.desk c.advance_by_plan.new.self taken c.self.invariant.0 c.in-Ok.ensures.takes,
      size,
    )

pub returns-clause-takes : goal.returns-clause-takes
returns-clause-takes g c = rw (← c.self.view_is) c.in-Ok.ensures.takes

pub returns-clause-plan : goal.returns-clause-plan
returns-clause-plan g c =
    let p = c.self.inside in
    let taken = c.in-Ok.taken in
    let still : IsSound (with_entry p.keeper taken.snapshot).history c.record.new.pass.receipts =
    subst (λ (k : KeeperView Entry). IsSound k.history c.record.new.pass.receipts) c.record.ensures.keeper c.record-2.ensures.sound in
    let two : c.record-2.result ≡ length (with_entry p.keeper taken.snapshot).history =
    c.record-2.ensures.number ∙ ap (λ (k : KeeperView Entry). length k.history) c.record.ensures.keeper in
    rw (← c.self.view_is) (adds_plan (g.B.Naming.opening p.keeper.number) p.keeper.history c.args.pass.now c.record.new.pass c.record-2.new.pass
    p.desk c.advance_by_plan.new.self taken c.record.result c.record-2.result c.self.invariant.0 c.in-Ok.ensures.takes
    c.record.ensures.number two c.record.ensures.sound c.record.ensures.pass still c.record-2.ensures.pass)

pub returns-in-Err-clause-err : goal.returns-in-Err-clause-err
returns-in-Err-clause-err g c =
    let p = c.self.inside in
    let sees = sees_now (g.B.Naming.opening p.keeper.number) p.keeper.history c.args.pass.now c.see.new.pass p.desk c.self.invariant.0 c.see.ensures.sound c.see.ensures.pass in
    rw (← c.self.view_is) (p.desk, sees, tt)

pub returns-in-Err-clause-worn_at : goal.returns-in-Err-clause-worn_at
returns-in-Err-clause-worn_at g c worn =
    let p = c.self.inside in
    let sees = sees_now (g.B.Naming.opening p.keeper.number) p.keeper.history c.args.pass.now c.see.new.pass p.desk c.self.invariant.0 c.see.ensures.sound c.see.ensures.pass in
    rw (← c.self.view_is) (p.desk, sees, c.in-Err.ensures.worn.0 worn)
