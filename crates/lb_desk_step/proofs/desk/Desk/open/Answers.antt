use Rattle.std.proofs.Common.{sym, subst}
use Rattle.lb_desk_model.specs.declared.entry.Entry.{Entry}
use Rattle.lb_desk_tail.specs.Tail.{TailView}
use Rattle.lb_desk_step.specs.Parts.{AgreeParts}
use Rattle.lb_desk_step.proofs.Stepping.{opening_parts}
use Rattle.lb_desk_step.proofs.desk.Desk.open.Goals as goal

pub invariant_of-result : goal.invariant_of-result
invariant_of-result g c =
    let core = c.in_ok-core.core in
    subst (λ (t : TailView Entry). AgreeParts core t 0) (sym c.in_ok-journal.ensures)
    (opening_parts c.args.backend.now c.args.journal core c.servers-servers.ensures.lawful c.in_ok-core.ensures.shown c.in_ok-core.ensures.uses)
