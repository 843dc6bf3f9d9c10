use Rattle.std.proofs.Common.{◌<◌, length}
use Rattle.lb_types.specs.Servers.{members_below}
use Rattle.dual_cert_write.specs.Sending.{Sends}
use Rattle.lb_answers.specs.Names.{server_word}
use Rattle.lb_answers.proofs.Wants.{words_below}
use Rattle.lb_answers.proofs.tables.send_want.Given as goal

abbrev pub invariant-loop-index : goal.invariant-loop-index
invariant-loop-index g l = record {
  some : 0 < length (members_below l.index l.want);
  words : Sends l.fn.out l.fn.sent l.out l.sent (words_below (λ server. server_word l.servers server) l.index l.want);
}
