use Rattle.std.proofs.Common.{map, take}
use Rattle.dual_cert_text.specs.Spellings.{text_of_lines, row_line}
use Rattle.dual_cert_write.specs.Sending.{Sends}
use Rattle.dual_cert_write.proofs.plan_text.send_rows.Given as goal

abbrev pub invariant-loop-row : goal.invariant-loop-row
invariant-loop-row g l =
    Sends l.fn.out l.fn.sent l.out l.sent (text_of_lines (map (λ row. row_line l.has_costs l.servers row) (take l.row-index l.rows)))
