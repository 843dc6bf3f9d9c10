-- What crates above know of a plan that the check accepts.
use Rattle.std.proofs.Common.{◌≡◌, refl}
use Rattle.std.specs.Prelude.{Ok, IsOk}
use Rattle.pin_set.specs.declared.totals.Score.{Score}
use Rattle.pin_set.specs.Rows.{AgreeingAreBest}
use Rattle.cert_check_law.specs.Sheets.{sheet_room}
use Rattle.dual_cert_plan.specs.Sheets.{SheetParts}
use Rattle.dual_cert_plan.specs.Plans.{PlanParts, IsPlan}
use Rattle.cert_check.specs.Verdict.{verdict}
use Rattle.cert_check.proofs.Best.{agreeing_from}
use Rattle.cert_check.proofs.Means.{ok-means}

-- every assignment that agrees with it is best at its sheet's capacities, and has its score
pub accepted_best : (sheet : SheetParts) (plan : PlanParts) (score : Score) → IsPlan plan → verdict sheet plan ≡ Ok score
    → AgreeingAreBest (sheet_room sheet) plan.rows
accepted_best sheet plan score lawful accepted =
    let ok : IsOk (verdict sheet plan) = rw accepted refl in
    let known = (ok-means sheet plan lawful.new_places).0 ok in
    agreeing_from sheet plan lawful known.1 known.2 known.3
