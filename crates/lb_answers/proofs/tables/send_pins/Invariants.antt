use Rattle.std.proofs.Common.{take}
use Rattle.std.specs.List.{flat_map}
use Rattle.dual_cert_write.specs.Sending.{Sends}
use Rattle.lb_answers.specs.Tables.{pin_line}
use Rattle.lb_answers.proofs.tables.send_pins.Given as goal

abbrev pub invariant-loop-pin : goal.invariant-loop-pin
invariant-loop-pin g l = Sends l.fn.out l.fn.sent l.out l.sent (flat_map (λ p. pin_line l.servers p) (take l.pin-index l.pins))
