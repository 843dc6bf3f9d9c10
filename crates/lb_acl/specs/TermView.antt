-- A test of a condition as contracts see it.
use Rattle.std.specs.Prelude.{Bool, List}
use Rattle.lb_acl.specs.declared.acl.AclLine.{AclLine}

-- whether `!` turns the test round, and the lines of its ACL
pub record TermView : Type 0 where
  pub is_negated : Bool
  pub lines : List AclLine
