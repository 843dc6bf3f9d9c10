-- How many there are of each kind: a list of kinds, each with its number. `same` says which kinds are one.
use Rattle.std.specs.Prelude.{◌≡◌, ℕ, ◌+◌, ◌<◌, Bool, List, All, sum_by, if◌then◌else◌}
use Rattle.std.specs.declared.cmp.Ordering.{Ordering}
use Rattle.std.specs.List.Sorted.{IsStrictlySortedBy}
use Rattle.std.specs.Map.{keys_of, values_of}

module _ {K : Type 0} where
  -- how many of this kind the counts say there are
  abbrev pub count_of : (K → K → Bool) → List (K × ℕ) → K → ℕ
  count_of same counts kind = sum_by (λ (c : K × ℕ). if same kind c.0 then c.1 else 0) counts

  -- 1 where the kinds are one, else 0
  abbrev pub one_if_same : (K → K → Bool) → K → K → ℕ
  one_if_same same a b = if same a b then 1 else 0

  -- of this kind there are so many more by the new counts than by the old ones, and of each other kind as many
  abbrev pub HasMore : (K → K → Bool) → List (K × ℕ) → K → ℕ → List (K × ℕ) → Type 0
  HasMore same old kind more new = (k : K) → count_of same new k ≡ count_of same old k + (if same k kind then more else 0)

  -- of this kind there is one more by the new counts than by the old ones, and of each other kind as many
  abbrev pub HasOneMore : (K → K → Bool) → List (K × ℕ) → K → List (K × ℕ) → Type 0
  HasOneMore same old kind new = (k : K) → count_of same new k ≡ count_of same old k + one_if_same same k kind

  -- one that was of the first kind is of the second
  abbrev pub HasChanged : (K → K → Bool) → List (K × ℕ) → K → K → List (K × ℕ) → Type 0
  HasChanged same old from to new =
      (k : K) → count_of same new k + one_if_same same k from ≡ count_of same old k + one_if_same same k to

  -- the kinds rise, so that none stands twice, and there is at least one of each
  pub record AreRising (cmp : K → K → Ordering) (counts : List (K × ℕ)) : Type 0 where
    pub rising : IsStrictlySortedBy cmp (keys_of counts)
    pub present : All (λ n. 0 < n) (values_of counts)
