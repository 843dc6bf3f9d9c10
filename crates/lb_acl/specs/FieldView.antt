-- A field line as contracts see it.
use Rattle.std.specs.Prelude.{ℕ, List}

-- the name and the value, each as it came
pub record FieldView : Type 0 where
  pub name : List ℕ
  pub value : List ℕ
