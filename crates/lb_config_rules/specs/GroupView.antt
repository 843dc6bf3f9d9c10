-- The lines of one ACL, as contracts see them.
use Rattle.std.specs.Prelude.{ℕ, List}
use Rattle.lb_acl.specs.declared.acl.AclLine.{AclLine}

pub record GroupView : Type 0 where
  pub name : List ℕ
  pub lines : List AclLine
