use Rattle.std.proofs.Common.{sym}
use Rattle.dual_cert_text.proofs.ServerTexts.{server_found}
use Rattle.dual_cert_text.proofs.Totals.{KeepsTotals-server}
use Rattle.dual_cert_text.proofs.plan_draft.PlanDraft.add_server.Goals as goal

pub invariant_of-self-2 : goal.invariant_of-self-2
invariant_of-self-2 c =
    let line = server_found _ _ _ _ (sym c.in_ok-server.ensures.exact) in
    let few = rw c.deref.ensures.value at c.in_ok-server.ensures.few in
    let new = rw c.deref.ensures.value at line.new in
    rw c.in_ok-push.ensures.items (KeepsTotals-server _ _ _ _ c.in_ok-server.server c.self.invariant few new)
