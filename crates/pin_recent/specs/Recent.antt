-- A map in order of last use, as the list of its pairs. There is no public standard for it; replacing the pair least recently
-- used is the usual rule of a cache (LRU).
use Rattle.std.specs.Prelude.{◌≡◌, ℕ, Bool, List, [], ◌∷◌, ◌++◌, map, IsPermutation}
use Rattle.std.specs.Map.{lookup_key, remove_entry}
use Rattle.std.specs.Option.{option_map, option_to_list}

-- the pairs, the one that wasn't used for longest first, and how many uses there were: a pair is used when it is pushed and when
-- it is touched
pub record InOrder (K V : Type 0) : Type 0 where
  pub pairs : List (K × V)
  pub uses : ℕ

abbrev pub in_order : {K V : Type 0} → List (K × V) → ℕ → InOrder K V
in_order pairs uses = record { pairs = pairs; uses = uses }

-- the pair whose key passes the test goes last, with this value; where there is none, nothing changes
abbrev pub touched : {K V : Type 0} → (K → Bool) → V → List (K × V) → List (K × V)
touched test value pairs =
    remove_entry test pairs ++ option_to_list (option_map (λ key. (key, value)) (lookup_key test pairs))

-- a pair, and the value that it gets
abbrev pub given : {K V : Type 0} → (K × V) × V → K × V
given c = (c.0.0, c.1)

-- from the first state on each of these pairs may be asked for in turn, whatever the ones before it got
abbrev pub MayChange : {C K V : Type 0} → (C → K → V → Type 0) → (C → K → V → V → C → Type 0) → C → List (K × V) → Type 0
MayChange accepts changes first [] = Unit {0}
MayChange {C} {K} {V} accepts changes first (pair ∷ pairs) = accepts first pair.0 pair.1
    × ((value : V) (next : C) → changes first pair.0 pair.1 value next → MayChange accepts changes next pairs)

-- each pair was asked for in turn and got its value, from the first state to the last
abbrev pub Asks : {C K V : Type 0} → (C → K → V → V → C → Type 0) → C → List ((K × V) × V) → C → Type 0
Asks changes first [] last = last ≡ first
Asks {C} changes first (c ∷ asked) last = (next : C) × changes first c.0.0 c.0.1 c.1 next × Asks changes next asked last

-- Each pair was asked for once, in some order, and has the value that it got. It stands where it stood, under its key
pub record IsChanged {C K V : Type 0} (changes : C → K → V → V → C → Type 0) (first last : C) (old new : List (K × V)) : Type 0 where
  pub changed : List ((K × V) × V)
  pub was : map (λ c. c.0) changed ≡ old
  pub is : map given changed ≡ new
  pub asked : List ((K × V) × V)
  pub each : IsPermutation changed asked
  pub asks : Asks changes first asked last
