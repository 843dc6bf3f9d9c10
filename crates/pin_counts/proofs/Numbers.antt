-- What a sum over the counts of one kind is: the number that a look-up of the kind finds.
use Rattle.std.proofs.Common.{◌≡◌, ℕ, ◌+◌, Bool, true, false, cond, List, [], ◌∷◌, Option, Some, Ordering, unwrap_or, IsSome, refl, sym, ap, ◌∙◌, subst, arith}
use Rattle.std.specs.List.{sum_by}
use Rattle.std.specs.List.Sorted.{IsStrictlySortedBy}
use Rattle.std.specs.Map.{keys_of, lookup}
use Rattle.std.specs.BTreeMap.{is_at}
use Rattle.std.specs.Cmp.{IsTotalOrder, eq_by_cmp_equiv}
use Rattle.std.specs.Ordering.{is_eq, eq_by_cmp}
use Rattle.std.specs.HashMap.Eq.{lookup_congr}
use Rattle.std.proofs.lemmas.List.Sums.{sum_by-cons}
use Rattle.std.proofs.lemmas.Map.{NonePasses}
use Rattle.std.proofs.lemmas.Map.Entries.{none_past_head}
use Rattle.std.proofs.lemmas.Map.Keys.{IsDistinct-from_sorted, sorted_tail}
use Rattle.pin_counts.specs.Counts.{count_of, one_if_same, HasMore, HasOneMore}

-- what an entry adds to the number of the kinds that pass
abbrev pub weight : {K : Type 0} → (K → Bool) → K × ℕ → ℕ
weight test c = cond (test c.0) c.1 0

-- where no kind passes, nothing is counted
none_counted : {K : Type 0} (test : K → Bool) (es : List (K × ℕ)) → NonePasses test es → sum_by (weight test) es ≡ 0
none_counted test [] none = refl
none_counted test (e ∷ es) none =
    let here : weight test e ≡ 0 = ap (λ b. cond b e.1 0) none.0 in
    omega (arith, sum_by-cons (weight test) e es, none_counted test es none.1)

pub some_is : (o : Option ℕ) (n : ℕ) → Some n ≡ o → IsSome o
some_is o n e = subst (λ (p : Option ℕ). IsSome p) e refl

-- what a look-up of the kind finds; 0 where it finds nothing
abbrev pub number_at : {K : Type 0} → (K → K → Ordering) → List (K × ℕ) → K → ℕ
number_at cmp es k = unwrap_or (lookup (is_at (cmp k)) es) 0

-- new has w at the kind, and at each other kind what old has
abbrev pub Updated : {K : Type 0} → (K → K → Ordering) → K → Option ℕ → List (K × ℕ) → List (K × ℕ) → Type 0
Updated {K} cmp kind w old new = (q : K) → lookup (is_at (cmp q)) new ≡ cond (is_at (cmp kind) q) w (lookup (is_at (cmp q)) old)

module _ {K : Type 0} (same : K → K → Bool) (cmp : K → K → Ordering) (total : IsTotalOrder cmp)
    (is : (x y : K) → same x y ≡ is_eq (cmp x y)) where
  counted_head : (k : K) (e : K × ℕ) (es : List (K × ℕ)) (b : Bool) → is_at (cmp k) e.0 ≡ b
      → IsStrictlySortedBy cmp (keys_of (e ∷ es)) → sum_by (weight (is_at (cmp k))) es ≡ number_at cmp es k
      → sum_by (weight (is_at (cmp k))) (e ∷ es) ≡ number_at cmp (e ∷ es) k
  counted_head k e es true hit sorted rest =
      let here : weight (is_at (cmp k)) e ≡ e.1 = ap (λ b. cond b e.1 0) hit in
      let none : sum_by (weight (is_at (cmp k))) es ≡ 0 =
      none_counted (is_at (cmp k)) es (none_past_head (eq_by_cmp_equiv total) k e es (IsDistinct-from_sorted cmp (keys_of (e ∷ es)) sorted) hit) in
      let found : number_at cmp (e ∷ es) k ≡ e.1 = ap (λ b. unwrap_or (cond b (Some e.1) (lookup (is_at (cmp k)) es)) 0) hit in
      omega (arith, sum_by-cons (weight (is_at (cmp k))) e es)
  counted_head k e es false miss sorted rest =
      let here : weight (is_at (cmp k)) e ≡ 0 = ap (λ b. cond b e.1 0) miss in
      let found : number_at cmp (e ∷ es) k ≡ number_at cmp es k = ap (λ b. unwrap_or (cond b (Some e.1) (lookup (is_at (cmp k)) es)) 0) miss in
      omega (arith, sum_by-cons (weight (is_at (cmp k))) e es)

  counted : (k : K) (es : List (K × ℕ)) → IsStrictlySortedBy cmp (keys_of es) → sum_by (weight (is_at (cmp k))) es ≡ number_at cmp es k
  counted k [] sorted = refl
  counted k (e ∷ es) sorted =
      counted_head k e es (is_at (cmp k) e.0) refl sorted (counted k es (sorted_tail cmp e.0 (keys_of es) sorted))

  -- the counts of a kind in rising counts
  pub count : (k : K) (es : List (K × ℕ)) → IsStrictlySortedBy cmp (keys_of es) → count_of same es k ≡ number_at cmp es k
  count k es sorted = (λ i. sum_by (λ (c : K × ℕ). cond (is k c.0 i) c.1 0) es) ∙ counted k es sorted

  -- the numbers at an equal kind, and at another one
  at_kind : (kind q : K) (w : Option ℕ) (old new : List (K × ℕ)) → Updated cmp kind w old new → is_at (cmp kind) q ≡ true
      → (number_at cmp new q ≡ unwrap_or w 0) × (number_at cmp old q ≡ number_at cmp old kind) × (one_if_same same q kind ≡ 1)
  at_kind kind q w old new updated hit = (
    ap (λ (o : Option ℕ). unwrap_or o 0) (updated q) ∙ ap (λ b. unwrap_or (cond b w (lookup (is_at (cmp q)) old)) 0) hit,
    sym (ap (λ (o : Option ℕ). unwrap_or o 0) (lookup_congr (eq_by_cmp cmp) (eq_by_cmp_equiv total).congr old kind q hit)),
    ap (λ b. cond b 1 0) (is q kind ∙ ((eq_by_cmp_equiv total).symm q kind ∙ hit)),
  )

  elsewhere : (kind q : K) (w : Option ℕ) (old new : List (K × ℕ)) → Updated cmp kind w old new → is_at (cmp kind) q ≡ false
      → (number_at cmp new q ≡ number_at cmp old q) × (one_if_same same q kind ≡ 0)
  elsewhere kind q w old new updated miss = (
    ap (λ (o : Option ℕ). unwrap_or o 0) (updated q) ∙ ap (λ b. unwrap_or (cond b w (lookup (is_at (cmp q)) old)) 0) miss,
    ap (λ b. cond b 1 0) (is q kind ∙ ((eq_by_cmp_equiv total).symm q kind ∙ miss)),
  )

  more_at : (kind q : K) (n : ℕ) (w : Option ℕ) (old new : List (K × ℕ)) (b : Bool) → is_at (cmp kind) q ≡ b → Updated cmp kind w old new
      → unwrap_or w 0 ≡ number_at cmp old kind + n → number_at cmp new q ≡ number_at cmp old q + cond (same q kind) n 0
  more_at kind q n w old new true hit updated amount =
      let at = at_kind kind q w old new updated hit in
      let alike : cond (same q kind) n 0 ≡ n = ap (λ b. cond b n 0) (is q kind ∙ ((eq_by_cmp_equiv total).symm q kind ∙ hit)) in
      omega (arith, at.0, at.1)
  more_at kind q n w old new false miss updated amount =
      let at = elsewhere kind q w old new updated miss in
      let other : cond (same q kind) n 0 ≡ 0 = ap (λ b. cond b n 0) (is q kind ∙ ((eq_by_cmp_equiv total).symm q kind ∙ miss)) in
      omega (arith, at.0)

  fewer_at : (kind q : K) (w : Option ℕ) (old new : List (K × ℕ)) (b : Bool) → is_at (cmp kind) q ≡ b → Updated cmp kind w old new
      → unwrap_or w 0 + 1 ≡ number_at cmp old kind → number_at cmp old q ≡ number_at cmp new q + one_if_same same q kind
  fewer_at kind q w old new true hit updated amount = let at = at_kind kind q w old new updated hit in omega (arith, at.0, at.1, at.2)
  fewer_at kind q w old new false miss updated amount = let at = elsewhere kind q w old new updated miss in omega (arith, at.0, at.1)

  -- so many more are written at the kind
  pub many_more : (kind : K) (n : ℕ) (w : Option ℕ) (old new : List (K × ℕ)) → IsStrictlySortedBy cmp (keys_of old) → IsStrictlySortedBy cmp (keys_of new)
      → Updated cmp kind w old new → unwrap_or w 0 ≡ number_at cmp old kind + n → HasMore same old kind n new
  many_more kind n w old new rises rises_on updated amount q =
      let step = more_at kind q n w old new (is_at (cmp kind) q) refl updated amount in
      omega (arith, step, count q old rises, count q new rises_on)

  -- one fewer is written at the kind, or it leaves where there was one
  pub one_fewer : (kind : K) (w : Option ℕ) (old new : List (K × ℕ)) → IsStrictlySortedBy cmp (keys_of old) → IsStrictlySortedBy cmp (keys_of new)
      → Updated cmp kind w old new → unwrap_or w 0 + 1 ≡ number_at cmp old kind → HasOneMore same new kind old
  one_fewer kind w old new rises rises_on updated amount q =
      let step = fewer_at kind q w old new (is_at (cmp kind) q) refl updated amount in
      omega (arith, step, count q old rises, count q new rises_on)
