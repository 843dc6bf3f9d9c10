use Rattle.dual_cert_text.specs.Spellings.{row_line}
use Rattle.dual_cert_write.proofs.Sends.{Sends-no_lines, Sends-line}
use Rattle.dual_cert_write.proofs.plan_text.send_rows.Goals as goal

pub loop-row-init : goal.loop-row-init
loop-row-init g c = Sends-no_lines c.args.out.now c.args.sent

pub loop-row-preserved : goal.loop-row-preserved
loop-row-preserved g c =
    Sends-line _ _ _ _ _ _ (λ row. row_line c.args.has_costs c.args.servers.now row) c.args.rows.now c.loop-row.row-index c.row-item.result c.loop-row-test.true c.row-item.is c.loop-row.invariant c.send_row-sent.ensures
