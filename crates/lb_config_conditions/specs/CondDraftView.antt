-- The words of a condition as far as they were read.
use Rattle.std.specs.Prelude.{Bool, List, Option}
use Rattle.lb_config_conditions.specs.declared.unresolved.UnresolvedTerm.{UnresolvedTerm}
use Rattle.lb_config_conditions.specs.AclDraftView.{AclDraftView}

-- the alternatives that are whole, the tests of the next one, whether the `!` before the next test turn it round, if there is one,
-- and the anonymous ACL that is open
pub record CondDraftView : Type 0 where
  pub alternatives : List (List UnresolvedTerm)
  pub terms : List UnresolvedTerm
  pub bang : Option Bool
  pub open_acl : Option AclDraftView
