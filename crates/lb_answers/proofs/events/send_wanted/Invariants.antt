use Rattle.lb_types.specs.Servers.{members_below}
use Rattle.dual_cert_write.specs.Sending.{Sends}
use Rattle.lb_answers.specs.Events.{rules_text}
use Rattle.lb_answers.proofs.events.send_wanted.Given as goal

abbrev pub invariant-loop-index : goal.invariant-loop-index
invariant-loop-index g l = Sends l.fn.out l.fn.sent l.out l.sent (rules_text l.servers (members_below l.index l.want))
