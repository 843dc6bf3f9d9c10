-- A rule `pin-cost` as contracts see it.
use Rattle.std.specs.Prelude.{ℕ, ◌≤◌}
use Rattle.lb_types.specs.declared.limits.TheConstants.{MAX_COST}
use Rattle.lb_acl.specs.CondView.{CondView}

-- the cost, and when it counts
pub record PinCostView : Type 0 where
  pub cost : ℕ
  pub cond : CondView

-- a lawful cost
pub record IsPinCost (cost : ℕ) : Type 0 where
  pub least : 1 ≤ cost
  pub greatest : cost ≤ MAX_COST
