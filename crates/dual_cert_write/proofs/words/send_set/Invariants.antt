use Rattle.std.proofs.Common.{◌<◌, map, length}
use Rattle.std.specs.List.{join_with_byte}
use Rattle.lb_types.specs.Servers.{members_below}
use Rattle.dual_cert_write.specs.Sending.{Sends}
use Rattle.dual_cert_write.proofs.Sets.{names_below}
use Rattle.dual_cert_write.proofs.words.send_set.Given as goal

abbrev pub invariant-loop-index : goal.invariant-loop-index
invariant-loop-index g l = record {
  some : 0 < length (members_below l.index l.set);
  names : Sends l.fn.out l.fn.sent l.out l.sent (join_with_byte 44 (names_below (map g.S.Listed.priced l.servers) l.index l.set));
}
