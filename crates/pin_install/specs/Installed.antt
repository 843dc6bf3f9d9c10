-- A plan installed in a table. All of it is our own.
use Rattle.std.specs.Prelude.{◌≡◌, ℕ, Option, List, map}
use Rattle.std.specs.List.{zip}
use Rattle.dual_cert_plan.specs.Plans.{PlanParts}
use Rattle.pin_set.specs.declared.totals.Score.{Score}
use Rattle.pin_set.specs.declared.view.ViewServer.{ViewServer}
use Rattle.pin_set.specs.Views.{ViewParts, view_of_parts}
use Rattle.lb_desk_model.specs.Installs.{InstallsAt, moved_to}
use Rattle.pin_table.specs.Tables.{TableParts, with_pins}

-- the view of a backend with these usable servers, these servers and the table's pins
abbrev pub table_view : ℕ → List ViewServer → TableParts → ViewParts
table_view usable servers table = view_of_parts usable servers (map (λ p. p.pin) table.pins)

-- each pin gets the place that the plan gives it, and nothing else of the table changes
pub record InstallsIn (usable : ℕ) (servers : List ViewServer) (plan : PlanParts) (score : Score) (old new : TableParts) : Type 0 where
  pub places : List (Option ℕ)
  pub moves : InstallsAt (table_view usable servers old) old.version plan score places
  pub new_is : new ≡ with_pins old (map (λ m. moved_to m.0 m.1) (zip old.pins places))
