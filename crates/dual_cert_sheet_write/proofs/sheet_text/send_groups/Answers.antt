use Rattle.dual_cert_sheet.specs.SheetSpellings.{group_line}
use Rattle.dual_cert_write.proofs.Sends.{Sends-no_lines, Sends-line}
use Rattle.dual_cert_sheet_write.proofs.sheet_text.send_groups.Goals as goal

pub loop-group-init : goal.loop-group-init
loop-group-init g c = Sends-no_lines c.args.out.now c.args.sent

pub loop-group-preserved : goal.loop-group-preserved
loop-group-preserved g c =
    Sends-line _ _ _ _ _ _ (λ group. group_line c.args.has_costs c.args.servers.now group) c.args.groups.now c.loop-group.group-index c.group-item.result c.loop-group-test.true c.group-item.is c.loop-group.invariant c.send_group-sent.ensures
