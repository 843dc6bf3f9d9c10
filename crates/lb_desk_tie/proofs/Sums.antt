-- Sums over lists, facts on each element, and lists of receipts that grow.
use Rattle.std.proofs.Common.{◌≡◌, ℕ, zero, suc, ◌+◌, ◌<◌, ◌≤◌, List, [], ◌∷◌, ◌++◌, length, set, Some, Bool, true, false, ◌&&◌, refl, sym, ap, ◌∙◌, subst, arith, length-append, append_assoc}
use Rattle.std.specs.Prelude.{slice_get, nat_le}
use Rattle.std.proofs.lemmas.Bool.{and_from, le-leb}
use Rattle.std.proofs.lemmas.Bool.Decides.{nat_tests}
use mathlib.Core.Option.{some, some-ne-none, some-injective}
use lib.ListN.{get_elem?}
use Rattle.lb_desk_tie.specs.Receipts.{Each, total, one_if_same, one_if_below, StandsIn, rises_from, rises, all_rise, times, IsSound, IsBeginningOf}
use Rattle.lb_desk_tie.specs.Rule.{next_from}

module _ {A : Type 0} where
  pub total-append : (f : A → ℕ) (xs ys : List A) → total f (xs ++ ys) ≡ total f xs + total f ys
  total-append f [] ys = omega arith
  total-append f (x ∷ xs) ys = omega (arith, total-append f xs ys)

  pub total-set : (f : A → ℕ) (xs : List A) (i : ℕ) (v w : A) → get_elem? xs i ≡ some v → total f (set xs i w) + f v ≡ total f xs + f w
  total-set f [] i v w at = absurd (some-ne-none v (sym at))
  total-set f (x ∷ xs) zero v w at = let same : f x ≡ f v = ap f (some-injective x v at) in omega arith
  total-set f (x ∷ xs) (suc i) v w at = omega (arith, total-set f xs i v w at)

  pub at_total : (f : A → ℕ) (xs : List A) (i : ℕ) (v : A) → get_elem? xs i ≡ some v → f v ≤ total f xs
  at_total f [] i v at = absurd (some-ne-none v (sym at))
  at_total f (x ∷ xs) zero v at = let same : f x ≡ f v = ap f (some-injective x v at) in omega arith
  at_total f (x ∷ xs) (suc i) v at = omega (arith, at_total f xs i v at)

  pub total_of_none : (f : A → ℕ) (xs : List A) → length xs ≡ 0 → total f xs ≡ 0
  total_of_none f [] none = refl
  total_of_none f (x ∷ xs) none = absurd (omega arith)

  total_zero : (f g : A → ℕ) → ((u : A) → g u ≡ 0 → f u ≡ 0) → (xs : List A) → total g xs ≡ 0 → total f xs ≡ 0
  total_zero f g zeros [] none = refl
  total_zero f g zeros (x ∷ xs) none =
      let here : f x ≡ 0 = zeros x (omega arith) in
      let rest : total f xs ≡ 0 = total_zero f g zeros xs (omega arith) in
      omega arith

  -- one element has all of the sum
  pub total_alone : (f g : A → ℕ) → ((u : A) → g u ≡ 0 → f u ≡ 0) → (xs : List A) (i : ℕ) (v : A) → get_elem? xs i ≡ some v → total g xs ≤ g v → total f xs ≡ f v
  total_alone f g zeros [] i v at most = absurd (some-ne-none v (sym at))
  total_alone f g zeros (x ∷ xs) zero v at most =
      let f_same : f x ≡ f v = ap f (some-injective x v at) in
      let g_same : g x ≡ g v = ap g (some-injective x v at) in
      let rest : total f xs ≡ 0 = total_zero f g zeros xs (omega arith) in
      omega arith
  total_alone f g zeros (x ∷ xs) (suc i) v at most =
      let least : g v ≤ total g xs = at_total g xs i v at in
      let here : f x ≡ 0 = zeros x (omega arith) in
      let rest : total f xs ≡ f v = total_alone f g zeros xs i v at (omega arith) in
      omega arith

  pub Each-append : (P : A → Type 0) (xs ys : List A) → Each P xs → Each P ys → Each P (xs ++ ys)
  Each-append P [] ys first second = second
  Each-append P (x ∷ xs) ys first second = (first.0, Each-append P xs ys first.1 second)

  pub Each-map : (P Q : A → Type 0) → ((x : A) → P x → Q x) → (xs : List A) → Each P xs → Each Q xs
  Each-map P Q step [] all = tt
  Each-map P Q step (x ∷ xs) all = (step x all.0, Each-map P Q step xs all.1)

  pub length-push : (xs : List A) (x : A) → length (xs ++ x ∷ []) ≡ length xs + 1
  length-push xs x = omega (arith, length-append xs (x ∷ []))

  slice_get-below : (xs : List A) (k : ℕ) (x : A) → slice_get xs k ≡ Some x → k < length xs
  slice_get-below [] k x at = absurd (cc)
  slice_get-below (y ∷ ys) zero x at = omega arith
  slice_get-below (y ∷ ys) (suc k) x at = omega (arith, slice_get-below ys k x at)

  slice_get-front : (xs ys : List A) (k : ℕ) (x : A) → slice_get xs k ≡ Some x → slice_get (xs ++ ys) k ≡ Some x
  slice_get-front [] ys k x at = absurd (cc)
  slice_get-front (y ∷ xs) ys zero x at = at
  slice_get-front (y ∷ xs) ys (suc k) x at = slice_get-front xs ys k x at

  slice_get-push : (xs : List A) (x : A) → slice_get (xs ++ x ∷ []) (length xs) ≡ Some x
  slice_get-push [] x = refl
  slice_get-push (y ∷ ys) x = slice_get-push ys x

pub one_if_below-next : (x n : ℕ) → one_if_below x (n + 1) ≡ one_if_below x n + one_if_same n x
one_if_below-next x n = grind (arith, nat_tests)

and-true : (b : Bool) → b && true ≡ b
and-true true = refl
and-true false = refl

and_assoc : (a b c : Bool) → (a && b) && c ≡ a && (b && c)
and_assoc true b c = refl
and_assoc false b c = refl

pub append_empty : {A : Type 0} (xs : List A) → xs ++ [] ≡ xs
append_empty [] = refl
append_empty (x ∷ xs) = ap (λ l. x ∷ l) (append_empty xs)

module _ {E : Type 0} where
  pub times-push : (x : ℕ) (list : List (ℕ × E)) (r : ℕ × E) → times x (list ++ r ∷ []) ≡ times x list + one_if_same r.0 x
  times-push x list r = omega (arith, total-append (λ (p : ℕ × E). one_if_same p.0 x) list (r ∷ []))

  pub next_from-push : (n : ℕ) (list : List (ℕ × E)) (r : ℕ × E) → next_from n (list ++ r ∷ []) ≡ r.0 + 1
  next_from-push n [] r = refl
  next_from-push n (p ∷ ps) r = next_from-push (p.0 + 1) ps r

  pub rises_from-push : (n : ℕ) (list : List (ℕ × E)) (r : ℕ × E) → rises_from n (list ++ r ∷ []) ≡ rises_from n list && nat_le (next_from n list) r.0
  rises_from-push n [] r = and-true (nat_le n r.0)
  rises_from-push n (p ∷ ps) r =
      ap (λ (b : Bool). nat_le n p.0 && b) (rises_from-push (p.0 + 1) ps r) ∙ sym (and_assoc (nat_le n p.0) (rises_from (p.0 + 1) ps) (nat_le (next_from (p.0 + 1) ps) r.0))

  next_from-below : (history : List E) (n : ℕ) (list : List (ℕ × E)) → n ≤ length history → Each (StandsIn history) list → next_from n list ≤ length history
  next_from-below history n [] below stand = below
  next_from-below history n (p ∷ ps) below stand =
      let here : p.0 < length history = slice_get-below history p.0 p.1 stand.0 in
      next_from-below history (p.0 + 1) ps (omega arith) stand.1

  stands_longer : (history more : List E) (list : List (ℕ × E)) → Each (StandsIn history) list → Each (StandsIn (history ++ more)) list
  stands_longer history more list stand = Each-map (StandsIn history) (StandsIn (history ++ more)) (λ p at. slice_get-front history more p.0 p.1 at) list stand

  pub sounds_longer : (history more : List E) (lists : List (List (ℕ × E))) → Each (IsSound history) lists → Each (IsSound (history ++ more)) lists
  sounds_longer history more lists sound = Each-map (IsSound history) (IsSound (history ++ more)) (λ list s. (stands_longer history more list s.0, s.1)) lists sound

  -- a beginning of a history is one of a longer one, and the history of itself
  pub early_longer : (history more : List E) (sights : List (List E)) → Each (IsBeginningOf history) sights → Each (IsBeginningOf (history ++ more)) sights
  early_longer history more sights early =
      Each-map (IsBeginningOf history) (IsBeginningOf (history ++ more)) (λ sight b. (b.0 ++ more, ap (λ l. l ++ more) b.1 ∙ append_assoc sight b.0 more)) sights early

  pub early_push : (history : List E) (sights : List (List E)) (sight : List E) → sight ≡ history → Each (IsBeginningOf history) sights → Each (IsBeginningOf history) (sights ++ sight ∷ [])
  early_push history sights sight is early =
      Each-append (IsBeginningOf history) sights (sight ∷ []) early (([], sym is ∙ sym (append_empty sight)), tt)

  pub sound_push : (history : List E) (entry : E) (list : List (ℕ × E)) (n : ℕ) → n ≡ length history → IsSound history list → IsSound (history ++ entry ∷ []) (list ++ (n, entry) ∷ [])
  sound_push history entry list n is sound =
      let below : next_from 0 list ≤ length history = next_from-below history 0 list (omega arith) sound.0 in
      let last : StandsIn (history ++ entry ∷ []) (n, entry) = subst (λ (k : ℕ). slice_get (history ++ entry ∷ []) k ≡ Some entry) (sym is) (slice_get-push history entry) in (
        Each-append (StandsIn (history ++ entry ∷ [])) list ((n, entry) ∷ []) (stands_longer history (entry ∷ []) list sound.0) (last, tt),
        rises_from-push 0 list (n, entry) ∙ and_from (rises list) (nat_le (next_from 0 list) n) sound.1 (le-leb (next_from 0 list) n (omega arith)),
      )

  pub sounds_stand : (history : List E) (lists : List (List (ℕ × E))) → Each (IsSound history) lists → Each (Each (StandsIn history)) lists
  sounds_stand history lists sound = Each-map (IsSound history) (Each (StandsIn history)) (λ list s. s.0) lists sound

  pub sounds_rise : (history : List E) (lists : List (List (ℕ × E))) → Each (IsSound history) lists → all_rise lists ≡ true
  sounds_rise history [] sound = refl
  sounds_rise history (list ∷ lists) sound = and_from (rises list) (all_rise lists) sound.0.1 (sounds_rise history lists sound.1)
