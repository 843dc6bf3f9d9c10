use Rattle.cert_check_law.proofs.Room.{best_for_views}
use Rattle.cert_check_law.proofs.sheets.views_have_the_sheets_room.Goals as goal

pub returns : goal.returns
returns c = best_for_views
