-- A line that compares texts, as contracts see it.
use Rattle.std.specs.Prelude.{ℕ, Bool, List}
use Rattle.lb_acl.specs.declared.acl.Sample.{Sample}
use Rattle.lb_acl.specs.declared.matching.Matching.{Matching}

-- the criterion in its two halves, the flag `-i`, and the values
pub record TextTestView : Type 0 where
  pub sample : Sample
  pub matching : Matching
  pub ignores_case : Bool
  pub values : List (List ℕ)
