-- The set of the servers that are on, one server after another.
use Rattle.std.proofs.Common.{◌≡◌, ◌≢◌, ℕ, ◌+◌, ◌<◌, ◌≤◌, Bool, true, false, ◌&&◌, ◌||◌, eqb, ltb, List, length, get_or, refl, inl, inr, arith}
use Rattle.std.specs.Prelude.{slice_get}
use Rattle.std.specs.Option.{option_map_or}
use Rattle.std.proofs.lemmas.Bool.{cases_lt, and_right, eq-eqb, ne_eqb, lt-ltb, le-ltb}
use Rattle.std.proofs.lemmas.Option.{slice_get-get_or, slice_get_past}

-- whether the server at this place is on
pub on_here : {X : Type 0} (is_on : X → Bool) (servers : List X) (i : ℕ) (server : X) → i < length servers → server ≡ get_or servers i server
    → is_on server ≡ option_map_or is_on (slice_get servers i) false
on_here is_on servers i server within is = rw (slice_get-get_or servers i server within, ← is) refl

-- a server more
pub one_on : (test : ℕ → Bool) (i s : ℕ) (on before : Bool) → on ≡ test i → before ≡ (ltb s i && test s) → ((on && eqb s i) || before) ≡ (ltb s (i + 1) && test s)
one_on test i s on before here was =
    elim (cases_lt s i) [
      | inl below ↦
          let other : s ≢ i = λ same. omega arith in
          rw (was, ne_eqb s i other, lt-ltb s i below, lt-ltb s (i + 1) (omega arith), and_right on false refl) refl
      | inr above ↦ elim (cases_lt i s) [
        | inl past ↦
            let other : s ≢ i = λ same. omega arith in
            rw (was, ne_eqb s i other, le-ltb s i above, le-ltb s (i + 1) (omega arith), and_right on false refl) refl
        | inr within ↦
            let same : s ≡ i = omega arith in
            rw (was, here, same, eq-eqb i i refl, le-ltb i i (omega arith), lt-ltb i (i + 1) (omega arith)) (last (test i))
      ]
    ]
  where
    last : (t : Bool) → ((t && true) || (false && t)) ≡ (true && t)
    last true = refl
    last false = refl

-- after the last server none is on
pub all_on : {X : Type 0} (is_on : X → Bool) (servers : List X) (n s : ℕ) → length servers ≤ n
    → (ltb s n && option_map_or is_on (slice_get servers s) false) ≡ option_map_or is_on (slice_get servers s) false
all_on is_on servers n s whole =
    elim (cases_lt s n) [
      | inl below ↦ rw (lt-ltb s n below) refl
      | inr above ↦ rw (le-ltb s n above, slice_get_past servers s (omega (arith, whole, above))) refl
    ]
