-- What every section is read by.
use Rattle.std.specs.Prelude.{ℕ, List}

-- the names of all backends, and how many entries a journal keeps
pub record BasisView : Type 0 where
  pub backends : List (List ℕ)
  pub journal : ℕ
