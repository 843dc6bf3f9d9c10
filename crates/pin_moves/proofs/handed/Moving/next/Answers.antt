use Rattle.std.proofs.Common.{set}
use Rattle.lb_types_pins.specs.Kinds.{same_kind}
use Rattle.pin_set.specs.Pins.{permitted}
use Rattle.pin_set.specs.Rows.{is_move}
use Rattle.pin_moves.specs.declared.a_move.Move.{Move}
use Rattle.pin_moves.specs.Moves.{moved_pins, pins_of, IsHandedOut}
use Rattle.pin_moves.proofs.Taking.{IsFirstLeft}
use Rattle.pin_moves.proofs.Handing.{less, order_less, sum_less}
use Rattle.pin_moves.proofs.handed.Moving.next.Goals as goal

pub invariant_of-self : goal.invariant_of-self
invariant_of-self c =
    let left = c.self.inside.left.items in
    let pins = pins_of c.args.place c.args.want c.args.cost in
    let at = c.first_left-at.result in
    let found = rw c.deref.ensures.value at c.first_left-at.ensures in
    let first : IsFirstLeft moved_pins (λ (m : Move). m.count) left pins at =
    record { within = found.within; same = found.pins; some = found.some; first = found.first } in
    let m = c.index_mut-next.result.now in
    order_less left pins at m c.self.invariant first c.index_mut-next.ensures.value

pub returns : goal.returns
returns c =
    let left = c.self.inside.left.items in
    let pins = pins_of c.args.place c.args.want c.args.cost in
    let at = c.first_left-at.result in
    let found = rw c.deref.ensures.value at c.first_left-at.ensures in
    let first : IsFirstLeft moved_pins (λ (m : Move). m.count) left pins at =
    record { within = found.within; same = found.pins; some = found.some; first = found.first } in
    let m = c.index_mut-next.result.now in
    let is = c.index_mut-next.ensures.value in
    let handed : IsHandedOut c.args.place c.args.want c.args.cost m.to left (set left at (less m)) = record {
      left = λ p w e. sum_less (λ k q. same_kind (pins_of p w e) k) left pins at m first is;
      going = λ p w e q. sum_less (λ k to. is_move (pins_of p w e) q (k, to)) left pins at m first is;
      sent = λ usable kind q. sum_less (λ k to. is_move kind q (pins_of k.place (permitted k.permitted usable) k.cost, to)) left pins at m first is;
    } in
    rw (← c.self.view_is) handed
