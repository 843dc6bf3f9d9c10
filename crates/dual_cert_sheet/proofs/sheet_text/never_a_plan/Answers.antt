use Rattle.dual_cert_sheet.proofs.SheetLaws.{no_sheet_is_a_plan}
use Rattle.dual_cert_sheet.proofs.sheet_text.never_a_plan.Goals as goal

pub returns : goal.returns
returns c = λ sheet plan rest more same. no_sheet_is_a_plan sheet plan rest more same
