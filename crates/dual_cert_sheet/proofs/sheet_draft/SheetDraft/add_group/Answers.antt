use Rattle.dual_cert_sheet.proofs.Totals.{KeepsTotals-group}
use Rattle.dual_cert_sheet.proofs.sheet_draft.SheetDraft.add_group.Goals as goal

pub invariant_of-self-2 : goal.invariant_of-self-2
invariant_of-self-2 c = let k = KeepsTotals-group _ _ _ _ c.in_ok-group.group c.self.invariant c.in_ok-group.ensures.fits in rw (c.in_ok-push.ensures.items, c.or_needs_costs-self-inside.ensures, c.from.ensures) k
