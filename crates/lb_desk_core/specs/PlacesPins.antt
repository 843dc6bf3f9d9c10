-- What an install does to what is shown. No public clause cites this module.
use Rattle.std.specs.Prelude.{◌≡◌, ℕ, Option, List, map}
use Rattle.std.specs.List.{zip}
use Rattle.dual_cert_plan.specs.Plans.{PlanParts}
use Rattle.pin_set.specs.declared.totals.Score.{Score}
use Rattle.lb_desk_model.specs.Installs.{InstallsAt, moved_to}
use Rattle.lb_desk_model.specs.Seen.{Seen, view_seen}

-- each pin gets the place that the plan gives it, and nothing else that is shown changes
pub record PlacesPins (plan : PlanParts) (score : Score) (old new : Seen) : Type 0 where
  pub places : List (Option ℕ)
  pub installs : InstallsAt (view_seen old) old.version plan score places
  pub new_is : new ≡ record old { pins = map (λ m. moved_to m.0 m.1) (zip old.pins places) }
