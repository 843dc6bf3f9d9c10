use Rattle.std.proofs.Common.{◌≡◌, ◌+◌, take}
use Rattle.std.specs.List.{flat_map, enumerate_from}
use Rattle.dual_cert_write.specs.Sending.{Sends}
use Rattle.lb_answers.specs.Journals.{entry_line}
use Rattle.lb_answers.proofs.journals.send_journal.Given as goal

abbrev pub invariant-loop-entry : goal.invariant-loop-entry
invariant-loop-entry g l = record {
  numbered : l.number ≡ l.first + l.entry-index;
  lines :
      Sends l.fn.out l.fn.sent l.out l.sent
      (flat_map (λ m. entry_line l.backend.name l.backend.servers.now m.0 m.1) (take l.entry-index (enumerate_from l.first l.entries)));
}
