-- The words of an ACL as far as they were read.
use Rattle.std.specs.Prelude.{ℕ, Bool, List, Option}
use Rattle.lb_acl.specs.NetworkView.{NetworkView}
use Rattle.lb_config_conditions.specs.declared.criterion.Criterion.{Criterion}

-- the criterion, the flags `-i` and `--`, and the values
pub record AclDraftView : Type 0 where
  pub criterion : Option Criterion
  pub ignores_case : Bool
  pub is_literal : Bool
  pub networks : List NetworkView
  pub texts : List (List ℕ)
