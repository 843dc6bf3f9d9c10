use Rattle.std.proofs.Common.{map, take}
use Rattle.dual_cert_text.specs.Spellings.{text_of_lines}
use Rattle.dual_cert_sheet.specs.SheetSpellings.{group_line}
use Rattle.dual_cert_write.specs.Sending.{Sends}
use Rattle.dual_cert_sheet_write.proofs.sheet_text.send_groups.Given as goal

abbrev pub invariant-loop-group : goal.invariant-loop-group
invariant-loop-group g l =
    Sends l.fn.out l.fn.sent l.out l.sent (text_of_lines (map (λ group. group_line l.has_costs l.servers group) (take l.group-index l.groups)))
