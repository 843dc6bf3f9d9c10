use Rattle.dual_cert_sheet.proofs.Beginnings.{sheet_fault_stays}
use Rattle.dual_cert_sheet.proofs.sheet_text.a_fault_stays.Goals as goal

pub returns : goal.returns
returns c = λ front rest fault other is. sheet_fault_stays front rest fault other is
