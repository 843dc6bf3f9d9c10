-- What lines have declared, as contracts see it.
use Rattle.std.specs.Prelude.{ℕ, Bool, List}

-- the names of all frontends and backends, and what the section has: its servers' names, the numbers of its `acl` lines and of its
-- rules, and whether it has a line `stick on`
pub record DeclaredView : Type 0 where
  pub frontends : List (List ℕ)
  pub backends : List (List ℕ)
  pub servers : List (List ℕ)
  pub acls : ℕ
  pub rules : ℕ
  pub has_stick : Bool
