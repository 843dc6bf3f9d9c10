use Rattle.dual_cert_sheet.proofs.SheetLaws.{sheet_found}
use Rattle.dual_cert_sheet.proofs.sheet_text.read_whole.Goals as goal

pub into_sheet-requires : goal.into_sheet-requires
into_sheet-requires c = (sheet_found c.args.text.now c.in_ok-draft.draft c.in_ok-draft.ensures).0
