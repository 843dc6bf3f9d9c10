-- A condition as contracts see it.
use Rattle.std.specs.Prelude.{List}
use Rattle.lb_acl.specs.declared.cond.Polarity.{Polarity}
use Rattle.lb_acl.specs.TermView.{TermView}

-- the word before the condition, and the tests of each alternative
pub record CondView : Type 0 where
  pub polarity : Polarity
  pub alternatives : List (List TermView)
