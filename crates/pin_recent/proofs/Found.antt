-- What a look-up in the map says of the list.
use Rattle.std.proofs.Common.{◌≡◌, ℕ, zero, suc, Bool, false, List, [], ◌∷◌, position, Option, None, Some, slice_get, is_some, IfSome, IfNone, refl, sym, ap, true≢false}
use Rattle.std.proofs.lemmas.Option.{none-some, same_Some}
use Rattle.std.specs.Cmp.{IsEquivalence}
use Rattle.std.specs.List.{IsDistinct}
use Rattle.std.specs.Map.{keys_of, values_of, lookup}
use Rattle.pin_recent.specs.declared.stamped.Stamped.{Stamped}
use Rattle.pin_recent.specs.Sound.{Tied, picked, bare, numbers, OnlyAt, Nowhere}
use Rattle.pin_recent.proofs.Order.{one_stand}
use Rattle.pin_recent.proofs.Picked.{found, not_found}
use Rattle.pin_recent.proofs.Columns.{bare_at, number_at, only_at, nowhere}

none_left : {A : Type 0} (o : Option A) → false ≡ is_some o → o ≡ None
none_left None e = refl
none_left (Some x) e = absurd (true≢false (sym e))

module _ {K V : Type 0} where
  entry_of : (es : List (K × Stamped V)) (i : ℕ) (w : Stamped V) → slice_get (values_of es) i ≡ Some w → (k : K) × (slice_get es i ≡ Some (k, w))
  entry_of [] i w at = absurd (none-some w at)
  entry_of (e ∷ es) zero w at = (e.0, ap (λ (v : Stamped V). Some (e.0, v)) (same_Some e.1 w at))
  entry_of (e ∷ es) (suc i) w at = entry_of es i w at

  pub found_at : {eq : K → K → Bool} → IsEquivalence eq → (key : K) (es : List (K × Stamped V)) (first : ℕ) (log : List ℕ) (place : ℕ) (w : Stamped V)
      → Tied first log (numbers es) → IsDistinct eq (keys_of es) → Some place ≡ position (eq key) (keys_of es) → slice_get (values_of es) place ≡ Some w
      → Some w.value ≡ lookup (eq key) (picked (bare es) log)
  found_at {eq} laws key es first log place w tied distinct is at =
      let e = entry_of es place w at in
      let number = number_at es place (e.0, w) e.1 in
      let s = tied.stands place w.number number in
      sym (found (eq key) (bare es) log s.0 place (e.0, w.value) (only_at laws key es place distinct (sym is)) s.2 (bare_at es place (e.0, w) e.1)
      (λ j at_j. one_stand first log (numbers es) j s.0 place w.number tied number at_j s.2))

  pub absent_from : (test : K → Bool) (es : List (K × Stamped V)) (log : List ℕ) → false ≡ is_some (lookup test es) → lookup test (picked (bare es) log) ≡ None
  absent_from test es log none = not_found test (bare es) log (nowhere test es (none_left (lookup test es) none))

  pub place_all : {eq : K → K → Bool} → IsEquivalence eq → (key : K) (es : List (K × Stamped V)) → IsDistinct eq (keys_of es) → (r : Option ℕ) → r ≡ position (eq key) (keys_of es)
      → IfSome r (λ place. OnlyAt (eq key) place (bare es))
  place_all laws key es distinct None is = tt
  place_all laws key es distinct (Some place) is = only_at laws key es place distinct (sym is)

  pub nowhere_all : (test : K → Bool) (es : List (K × Stamped V)) (r : Option ℕ) → is_some r ≡ is_some (lookup test es) → IfNone r (Nowhere test (bare es))
  nowhere_all test es None none = nowhere test es (none_left (lookup test es) none)
  nowhere_all test es (Some place) some = tt
