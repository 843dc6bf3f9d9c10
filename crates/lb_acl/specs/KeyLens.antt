-- How long a key may be.
use Rattle.std.specs.Prelude.{ℕ, ◌≤◌}
use Rattle.lb_acl.specs.declared.key.TheConstants.{MAX_KEY_LEN}

-- a lawful limit, in bytes
pub record IsKeyLen (bytes : ℕ) : Type 0 where
  pub least : 1 ≤ bytes
  pub greatest : bytes ≤ MAX_KEY_LEN
