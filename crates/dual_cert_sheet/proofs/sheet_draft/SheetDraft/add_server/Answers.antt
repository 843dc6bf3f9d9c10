use Rattle.std.proofs.Common.{sym}
use Rattle.dual_cert_sheet.proofs.RoomTexts.{server_found}
use Rattle.dual_cert_sheet.proofs.Totals.{KeepsTotals-server}
use Rattle.dual_cert_sheet.proofs.sheet_draft.SheetDraft.add_server.Goals as goal

pub invariant_of-self-2 : goal.invariant_of-self-2
invariant_of-self-2 c =
    let found = server_found _ _ _ _ (sym c.in_ok-server.ensures.exact) in
    let new = rw c.deref.ensures.value at found.0.new in
    let few = rw c.deref.ensures.value at c.in_ok-server.ensures.few in
    rw c.in_ok-push.ensures.items (KeepsTotals-server _ _ _ _ c.in_ok-server.server c.self.invariant few new found.1)
