-- A condition that names its ACLs, as contracts see it.
use Rattle.std.specs.Prelude.{List}
use Rattle.lb_acl.specs.declared.cond.Polarity.{Polarity}
use Rattle.lb_config_conditions.specs.declared.unresolved.UnresolvedTerm.{UnresolvedTerm}

-- the word before the condition, and the tests of each alternative
pub record UnresolvedCondView : Type 0 where
  pub polarity : Polarity
  pub alternatives : List (List UnresolvedTerm)
