use Rattle.sheet_format.proofs.Sheets.{one_sheet}
use Rattle.sheet_format.proofs.format_text.one_sheet_for_a_text.Goals as goal

pub returns : goal.returns
returns c = λ text a b a_lawful b_lawful a_means b_means. one_sheet text a b a_lawful b_lawful a_means b_means
