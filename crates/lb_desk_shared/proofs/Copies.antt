-- A journal is copied as two slices.
use Rattle.std.proofs.Common.{◌≡◌, List, [], ◌++◌, ◌∙◌}
use Rattle.std.specs.List.{AppendsClones, each_same}

module _ {A : Type 0} where
  pub both_copied : (first second none one two all : List A) → none ≡ [] → AppendsClones (λ x y. y ≡ x) none one first → AppendsClones (λ x y. y ≡ x) one two second
      → first ++ second ≡ all → two ≡ all
  both_copied first second none one two all empty a b is =
      b.1 ∙ (λ i. (a.1 ∙ (λ j. empty j ++ each_same first a.0 a.2 j)) i ++ each_same second b.0 b.2 i) ∙ is
