use Rattle.dual_cert_sheet.proofs.SheetLaws.{sheet_alone}
use Rattle.dual_cert_sheet.proofs.sheet_text.one_text.Goals as goal

pub returns : goal.returns
returns c = λ a b rest kept_a kept_b begins. sheet_alone a b rest kept_a kept_b begins
