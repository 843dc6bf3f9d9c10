use Rattle.dual_cert_sheet.proofs.SheetLaws.{sheet_is_spelled, sheet_is_read}
use Rattle.dual_cert_sheet.proofs.sheet_text.read_sheet.Goals as goal

pub returns-clause-found : goal.returns-clause-found
returns-clause-found c = sheet_is_spelled c.args.text.now c.read_whole.result c.read_whole.ensures

pub returns-clause-only : goal.returns-clause-only
returns-clause-only c = sheet_is_read c.args.text.now c.read_whole.result c.read_whole.ensures
