-- When a plan is accepted for a view.
use Rattle.std.specs.Prelude.{IsOk}
use Rattle.dual_cert_plan.specs.Sheets.{SheetParts, IsSheet}
use Rattle.dual_cert_plan.specs.Plans.{PlanParts}
use Rattle.pin_set.specs.Views.{ViewParts}
use Rattle.cert_check.specs.Verdict.{verdict}
use Rattle.cert_check_law.specs.Sheets.{StandsFor}

-- the view has a sheet for which the verdict on the plan is a score
pub record IsAcceptedFor (view : ViewParts) (plan : PlanParts) : Type 0 where
  pub sheet : SheetParts
  pub lawful : IsSheet sheet
  pub stands : StandsFor sheet view
  pub accepted : IsOk (verdict sheet plan)
