use Rattle.dual_cert_sheet.proofs.Beginnings.{sheet_begun}
use Rattle.dual_cert_sheet.proofs.sheet_text.a_beginning_is_truncated.Goals as goal

pub returns : goal.returns
returns c = λ sheet front rest kept more begins. sheet_begun sheet front rest kept more begins
