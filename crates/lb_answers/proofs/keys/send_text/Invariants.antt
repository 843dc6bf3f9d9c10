use Rattle.std.proofs.Common.{take}
use Rattle.std.specs.List.{flat_map}
use Rattle.dual_cert_write.specs.Sending.{Sends}
use Rattle.lb_answers.specs.Keys.{escaped}
use Rattle.lb_answers.proofs.keys.send_text.Given as goal

abbrev pub invariant-loop-byte : goal.invariant-loop-byte
invariant-loop-byte g l = Sends l.fn.out l.fn.sent l.out l.sent (flat_map (λ byte. escaped byte) (take l.byte-index l.bytes))
