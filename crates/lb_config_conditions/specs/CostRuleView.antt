-- A rule `pin-cost` as contracts see it.
use Rattle.std.specs.Prelude.{ℕ, ◌≤◌}
use Rattle.lb_types.specs.declared.limits.TheConstants.{MAX_COST}
use Rattle.lb_config_conditions.specs.UnresolvedCondView.{UnresolvedCondView}

-- the cost, and when it counts
pub record CostRuleView : Type 0 where
  pub cost : ℕ
  pub cond : UnresolvedCondView

-- a lawful cost
pub record IsCost (cost : ℕ) : Type 0 where
  pub least : 1 ≤ cost
  pub greatest : cost ≤ MAX_COST
