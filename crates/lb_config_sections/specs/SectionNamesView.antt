-- The names that a section's lines may use, as contracts see them.
use Rattle.std.specs.Prelude.{ℕ, Bool, List}

-- the names of its ACLs and of its servers, and whether it has a table
pub record SectionNamesView : Type 0 where
  pub acls : List (List ℕ)
  pub servers : List (List ℕ)
  pub has_table : Bool
