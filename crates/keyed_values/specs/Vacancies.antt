-- The keys that have no value. No public clause cites this module.
use Rattle.std.specs.Prelude.{◌≡◌, ◌≢◌, ℕ, ◌+◌, List, [], ◌∷◌, length, Option, Some, None, is_some, count_by, slice_get}

-- each of them is so
abbrev pub Each : {A : Type 0} → (A → Type 0) → List A → Type 0
Each Holds [] = Unit {0}
Each Holds (one ∷ more) = Holds one × Each Holds more

-- no two of them are equal
abbrev pub AreApart : List ℕ → Type 0
AreApart [] = Unit {0}
AreApart (one ∷ more) = Each (λ other. other ≢ one) more × AreApart more

-- where a value comes next: at the key that was given back last, or at the first one that had none yet
abbrev pub next_of : ℕ → List ℕ → ℕ
next_of end [] = end
next_of end (key ∷ []) = key
next_of end (key ∷ next ∷ more) = next_of end (next ∷ more)

-- the vacant keys are those places that have no value
pub record IsSound {T : Type 0} (places : List (Option T)) (vacant : List ℕ) : Type 0 where
  pub each : Each (λ key. slice_get places key ≡ Some None) vacant
  pub apart : AreApart vacant
  pub counted : length vacant + count_by is_some places ≡ length places
