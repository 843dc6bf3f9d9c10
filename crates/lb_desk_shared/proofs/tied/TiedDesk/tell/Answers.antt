use Rattle.std.proofs.Common.{◌≡◌, drop, sym, ap, ◌∙◌, subst}
use Rattle.lb_desk_model.specs.declared.entry.Entry.{Entry}
use Rattle.lb_desk_ports.specs.Calls.{entry}
use Rattle.lb_desk_step.specs.Desk.{StandsAt}
use Rattle.lb_desk_tail.specs.Tail.{TailView, leaving}
use Rattle.lb_desk_tie.specs.Receipts.{KeeperView, with_entry}
use Rattle.lb_desk_shared.proofs.Standing.{is_step, same_err, same_size, sees_now, some_same}
use Rattle.lb_desk_shared.proofs.tied.TiedDesk.tell.Goals as goal

pub invariant_of-self-2 : goal.invariant_of-self-2
invariant_of-self-2 g c =
    let p = c.self.inside in
    let takes = c.in-Ok.ensures.takes in
    let e = entry c.args.event c.in-Ok.taken.reply in
    let journal = p.desk.journal in
    let newest : c.in-Some.newest.now ≡ e =
    some_same c.in-Some.newest.now e (c.in-Some.ensures.newest (drop (leaving journal) journal.entries) e (ap (λ (t : TailView Entry). t.entries) (c.journal.ensures ∙ takes.journal))) in
    let size : c.advance.new.self.journal.capacity ≡ g.B.Naming.journal_size p.keeper.number =
    same_size p.desk c.advance.new.self c.args.event c.in-Ok.taken.reply takes ∙ c.self.invariant.1 in
    subst (λ (k : KeeperView Entry). StandsAt (g.B.Naming.opening k.number) k.history c.advance.new.self
    × (c.advance.new.self.journal.capacity ≡ g.B.Naming.journal_size k.number))
    (sym (c.record-number.ensures.keeper ∙ ap (with_entry p.keeper) newest))
    (takes.log (g.B.Naming.opening p.keeper.number) p.keeper.history c.self.invariant.0, size)

pub returns-clause-step : goal.returns-clause-step
returns-clause-step g c =
    let p = c.self.inside in
    rw (← c.self.view_is) (is_step (g.B.Naming.opening p.keeper.number) p.keeper.history c.args.pass.now.receipts p.desk c.advance.new.self
    c.record-number.result c.args.event c.in-Ok.taken.reply
    c.self.invariant.0 c.record-number.ensures.sound c.in-Ok.ensures.takes c.record-number.ensures.number)

pub returns-in-Err-clause-err : goal.returns-in-Err-clause-err
returns-in-Err-clause-err g c =
    let p = c.self.inside in
    let sees = sees_now (g.B.Naming.opening p.keeper.number) p.keeper.history c.args.pass.now c.see.new.pass p.desk c.self.invariant.0 c.see.ensures.sound c.see.ensures.pass in
    rw (← c.self.view_is) (p.desk, sees, tt)

pub returns-in-Err-clause-worn_at : goal.returns-in-Err-clause-worn_at
returns-in-Err-clause-worn_at g c worn =
    let p = c.self.inside in
    let sees = sees_now (g.B.Naming.opening p.keeper.number) p.keeper.history c.args.pass.now c.see.new.pass p.desk c.self.invariant.0 c.see.ensures.sound c.see.ensures.pass in
    rw (← c.self.view_is) (p.desk, sees, c.in-Err.ensures.worn.0 (same_err _ _ worn))
