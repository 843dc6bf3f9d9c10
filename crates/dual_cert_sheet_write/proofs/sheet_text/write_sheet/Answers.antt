use Rattle.dual_cert_write.proofs.Sends.{WasSent-whole, WasSent-front, WasSent-failed}
use Rattle.dual_cert_sheet_write.proofs.sheet_text.write_sheet.Goals as goal

pub returns-clause-whole : goal.returns-clause-whole
returns-clause-whole g c = WasSent-whole _ _ _ _ c.send_sheet.ensures.sent

pub returns-clause-front : goal.returns-clause-front
returns-clause-front g c = WasSent-front _ _ _ _ c.send_sheet.ensures.sent

pub returns-clause-failed : goal.returns-clause-failed
returns-clause-failed g c = WasSent-failed _ _ _ _ c.send_sheet.ensures.sent
