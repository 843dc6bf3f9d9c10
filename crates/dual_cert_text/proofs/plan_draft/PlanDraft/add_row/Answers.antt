use Rattle.dual_cert_text.proofs.Totals.{KeepsTotals-push}
use Rattle.dual_cert_text.proofs.plan_draft.PlanDraft.add_row.Goals as goal

pub invariant_of-self-2 : goal.invariant_of-self-2
invariant_of-self-2 c = let k = KeepsTotals-push _ _ _ _ c.in_ok-row.row c.self.invariant c.in_ok-row.ensures.fits in rw (c.in_ok-push.ensures.items, c.or_needs_costs-self-inside.ensures, c.from.ensures) k
