use Rattle.std.proofs.Common.{take}
use Rattle.dual_cert_write.specs.Sending.{Sends}
use Rattle.lb_answers.specs.Events.{rules_text}
use Rattle.lb_answers.proofs.events.send_rules.Given as goal

abbrev pub invariant-loop-server : goal.invariant-loop-server
invariant-loop-server g l = Sends l.fn.out l.fn.sent l.out l.sent (rules_text l.servers (take l.server-index l.rules))
