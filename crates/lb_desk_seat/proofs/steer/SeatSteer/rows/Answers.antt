use Rattle.std.proofs.Common.{◌≡◌, ℕ, sym, subst}
use Rattle.lb_desk_shared.specs.Desks.{Sees}
use Rattle.lb_desk_step.specs.Desk.{DeskView}
use Rattle.lb_desk_seat.proofs.Asking.{sight_grows}
use Rattle.lb_desk_seat.proofs.Copying.{pins_after}
use Rattle.lb_desk_seat.proofs.steer.SeatSteer.rows.Goals as goal

pub returns-in_err-pins-clause-sights : goal.returns-in_err-pins-clause-sights
returns-in_err-pins-clause-sights g c =
    let p = c.self.inside in
    rw (← c.self.view_is) (sight_grows _ p.pass c.rows.new.pass _ c.in_err-pins.ensures.pins)

pub returns-clause-sights : goal.returns-clause-sights
returns-clause-sights g c =
    let p = c.self.inside in
    rw (← c.self.view_is) (sight_grows _ p.pass c.rows.new.pass _ c.in_ok-pins.ensures.pins)

pub returns-clause-pins : goal.returns-clause-pins
returns-clause-pins g c =
    let p = c.self.inside in
    let pins = c.in_ok-pins.pins.items in
    let sees = subst (λ (n : ℕ). Sees (g.B.Naming.opening n) p.pass (λ (desk : DeskView). pins ≡ desk.shown.pins) c.rows.new.pass) (sym c.self.invariant) c.in_ok-pins.ensures.pins in
    rw (← c.self.view_is)
    (pins_after (g.B.Naming.opening p.pass.keeper) p.pass.keeper (g.B.Naming.journal_size p.pass.keeper) p.pass c.rows.new.pass pins sees)
