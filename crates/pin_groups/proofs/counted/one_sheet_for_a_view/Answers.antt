use Rattle.pin_groups.proofs.Tally.{one_sheet}
use Rattle.pin_groups.proofs.counted.one_sheet_for_a_view.Goals as goal

pub returns : goal.returns
returns c = one_sheet
