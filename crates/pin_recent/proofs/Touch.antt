-- The pair at a place gets a new value, and its place goes to the end of the log.
use Rattle.std.proofs.Common.{◌≡◌, ◌≢◌, ℕ, ◌+◌, ◌-◌, ◌<◌, ◌≤◌, Bool, ⊎_elim, List, [], ◌∷◌, ◌++◌, length, set, Some, slice_get, refl, sym, ap, ap₂, ◌∙◌, subst, length-append, arith}
use Rattle.std.proofs.lemmas.Option.{slice_get_within, slice_get_past}
use Rattle.std.specs.Map.{lookup}
use Rattle.indexmap.specs.Layout.{set_value_at, length-set_value_at}
use Rattle.pin_recent.specs.declared.stamped.Stamped.{Stamped}
use Rattle.pin_recent.specs.Recent.{touched}
use Rattle.pin_recent.specs.Sound.{Tied, OnlyAt, picked, bare, numbers}
use Rattle.pin_recent.proofs.Places.{one_at, at_set}
use Rattle.pin_recent.proofs.Order.{one_stand, stands_at, used_again}
use Rattle.pin_recent.proofs.Picked.{picked-append, picked_some, same_picked, found, touched_is, length-hole}
use Rattle.pin_recent.proofs.Columns.{length-bare, length-numbers, bare_at, number_at, numbers-set, bare-set, value_here, value_else}

module _ {K V : Type 0} (es : List (K × Stamped V)) (first : ℕ) (log : List ℕ) (place : ℕ) (key : K) (old now w : Stamped V) (value : V) (number : ℕ)
    (tied : Tied first log (numbers es)) (few : length es < 4294967295) (there : slice_get es place ≡ Some (key, now)) (was : old ≡ now)
    (new : w ≡ record { value = value; number = number }) (last : number ≡ first + length log) where
  has : slice_get es place ≡ Some (key, old)
  has = there ∙ ap (λ (o : Stamped V). Some (key, o)) (sym was)

  within : place < length es
  within = slice_get_within es place (key, old) has

  pub stood : (first ≤ old.number) × (old.number < first + length log) × (slice_get log (old.number - first) ≡ Some place)
  stood = stands_at first log (numbers es) place old.number tied (number_at es place (key, old) has)

  one : (j : ℕ) → slice_get log j ≡ Some place → j ≡ old.number - first
  one j at = one_stand first log (numbers es) j (old.number - first) place old.number tied (number_at es place (key, old) has) at stood.2

  pair : slice_get (bare es) place ≡ Some (key, old.value)
  pair = bare_at es place (key, old) has

  module _ (next : ℕ) (after : List ℕ) (next_is : next ≡ first) (after_is : after ≡ set log (old.number - first) 4294967295 ++ place ∷ []) where
    pub touch_tied : Tied next after (numbers (set_value_at es place w))
    touch_tied =
        let n : w.number ≡ first + length log = ap (λ (s : Stamped V). s.number) new ∙ last in
        let ns : numbers (set_value_at es place w) ≡ set (numbers es) place (first + length log) = numbers-set es place w ∙ ap (set (numbers es) place) n in
        let t = used_again first log (numbers es) place old.number 4294967295 tied (number_at es place (key, old) has) (omega (arith, few, length-numbers es)) (omega arith) in
        subst (λ (f : ℕ). Tied f after (numbers (set_value_at es place w))) (sym next_is)
        (subst (λ l. Tied first l (numbers (set_value_at es place w))) (sym after_is)
        (subst (λ l. Tied first (set log (old.number - first) 4294967295 ++ place ∷ []) l) (sym ns) t))

    not_there : (i p : ℕ) → slice_get (set log (old.number - first) 4294967295) i ≡ Some p → p ≢ place
    not_there i p at same = ⊎_elim
        (λ t. let hole : 4294967295 ≡ p = t.1 in omega (arith, few, within))
        (λ t. t.0 (one i (subst (λ r. slice_get log i ≡ Some r) same t.1)))
        (at_set log (old.number - first) i 4294967295 p at)

    touch_picked : picked (bare (set_value_at es place w)) after ≡ picked (bare es) (set log (old.number - first) 4294967295) ++ (key, value) ∷ []
    touch_picked =
        let holed = set log (old.number - first) 4294967295 in
        let ys = set_value_at (bare es) place value in
        let pairs : bare (set_value_at es place w) ≡ ys = bare-set es place w ∙ ap (λ (s : Stamped V). set_value_at (bare es) place s.value) new in
        let before : picked ys holed ≡ picked (bare es) holed =
        same_picked ys (bare es) holed holed refl (λ i p q at_p at_q. value_else (bare es) place p value (not_there i p at_p) ∙ ap (slice_get (bare es)) (one_at holed i p q at_p at_q)) in
        let behind : picked ys (place ∷ []) ≡ (key, value) ∷ [] = picked_some ys place [] (key, value) (value_here (bare es) place (key, old.value) value pair) in
        ap₂ picked pairs after_is ∙ picked-append ys holed (place ∷ []) ∙ ap₂ (λ (a b : List (K × V)). a ++ b) before behind

    pub touch_stored : (test : K → Bool) → OnlyAt test place (bare es) → picked (bare (set_value_at es place w)) after ≡ touched test value (picked (bare es) log)
    touch_stored test only =
        touch_picked ∙ touched_is test (bare es) log (old.number - first) place (key, old.value) only stood.2 pair one 4294967295 value (omega (arith, few, length-bare es))

    pub touch_all : length (picked (bare es) log) ≡ length es → length (picked (bare (set_value_at es place w)) after) ≡ length (set_value_at es place w)
    touch_all all =
        let less = length-hole (bare es) log (old.number - first) place 4294967295 (key, old.value) stood.2 pair (slice_get_past (bare es) 4294967295 (omega (arith, few, length-bare es))) in
        omega (arith, all, less, ap length touch_picked, length-append (picked (bare es) (set log (old.number - first) 4294967295)) ((key, value) ∷ []), length-set_value_at es place w)

  pub touch_found : (test : K → Bool) → OnlyAt test place (bare es) → lookup test (picked (bare es) log) ≡ Some old.value
  touch_found test only = found test (bare es) log (old.number - first) place (key, old.value) only stood.2 pair one
