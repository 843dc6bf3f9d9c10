use Rattle.std.proofs.Common.{◌≡◌, ℕ, sym, subst}
use Rattle.lb_desk_shared.specs.Desks.{IsCopyOf, Sees}
use Rattle.lb_desk_step.specs.Desk.{DeskView}
use Rattle.lb_desk_seat.proofs.Asking.{sight_grows}
use Rattle.lb_desk_seat.proofs.Copying.{journal_after}
use Rattle.lb_desk_seat.proofs.steer.SeatSteer.journal.Goals as goal

pub returns-in_err-copy-clause-sights : goal.returns-in_err-copy-clause-sights
returns-in_err-copy-clause-sights g c =
    let p = c.self.inside in
    rw (← c.self.view_is) (sight_grows _ p.pass c.entries.new.pass _ c.in_err-copy.ensures.journal)

pub returns-clause-sights : goal.returns-clause-sights
returns-clause-sights g c =
    let p = c.self.inside in
    rw (← c.self.view_is) (sight_grows _ p.pass c.entries.new.pass _ c.in_ok-copy.ensures.journal)

pub returns-clause-journal : goal.returns-clause-journal
returns-clause-journal g c =
    let p = c.self.inside in
    let size = g.B.Naming.journal_size in
    let sees = subst (λ (n : ℕ). Sees (g.B.Naming.opening n) p.pass (λ (desk : DeskView). IsCopyOf (size n) desk.journal c.in_ok-copy.copy) c.entries.new.pass)
    (sym c.self.invariant) c.in_ok-copy.ensures.journal in
    rw (← c.self.view_is)
    (journal_after (g.B.Naming.opening p.pass.keeper) p.pass.keeper (size p.pass.keeper) p.pass c.entries.new.pass c.in_ok-copy.copy sees)
