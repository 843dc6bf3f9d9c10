use Rattle.std.proofs.Common.{◌≡◌, take, arith}
use Rattle.std.specs.List.{enumerate_from}
use Rattle.std.proofs.lemmas.List.{take_all}
use Rattle.std.proofs.lemmas.List.FromFn.{length-enumerate_from}
use Rattle.dual_cert_write.proofs.Sends.{Sends-nil}
use Rattle.lb_answers.specs.Journals.{entry_line}
use Rattle.lb_answers.proofs.Pieces.{Sends-numbered}
use Rattle.lb_answers.proofs.journals.send_journal.Goals as goal

pub loop-entry-init : goal.loop-entry-init
loop-entry-init g c = record { numbered = omega arith; lines = Sends-nil c.args.out.now c.args.sent }

pub loop-entry-preserved : goal.loop-entry-preserved
loop-entry-preserved g c =
    record {
      numbered = omega arith;
      lines =
          Sends-numbered _ _ _ _ _ _ (λ m. entry_line c.args.backend.now.name c.args.backend.now.servers.now m.0 m.1) c.args.first c.args.entries.now c.loop-entry.entry-index c.loop-entry.number c.entry-item.result c.loop-entry-test.true c.loop-entry.invariant.numbered c.entry-item.is c.loop-entry.invariant.lines c.send_entry-sent.ensures;
    }

pub returns : goal.returns
returns g c =
    let numbered = enumerate_from c.args.first c.args.entries.now in
    let whole : take c.loop-entry.entry-index numbered ≡ numbered =
    take_all c.loop-entry.entry-index numbered (omega (arith, length-enumerate_from c.args.first c.args.entries.now)) in
    rw whole at c.loop-entry.invariant.lines
