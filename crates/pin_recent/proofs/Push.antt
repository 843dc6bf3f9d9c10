-- A pair goes behind the others, and what an absent key means.
use Rattle.std.proofs.Common.{◌≡◌, ℕ, zero, suc, ◌+◌, ◌<◌, ◌≤◌, Bool, true, false, cond, ⊎_elim, List, [], ◌∷◌, ◌++◌, length, Option, Result, None, Some, Ok, Err, OnOk, IsOk, is_err, slice_get, option_map, refl, sym, ap, ap₂, ◌∙◌, subst, true≢false, length-append, arith}
use Rattle.std.proofs.lemmas.List.{map-append}
use Rattle.std.proofs.lemmas.Option.{none-some, same_Some, slice_get_within, slice_get_past}
use Rattle.std.specs.Map.{lookup}
use Rattle.pin_recent.specs.declared.stamped.Stamped.{Stamped}
use Rattle.pin_recent.specs.Sound.{Tied, Nowhere, picked, bare, numbers}
use Rattle.pin_recent.proofs.Places.{at_below, below_or_not, one_at, at_longer, at_last, at_snoc}
use Rattle.pin_recent.proofs.Order.{one_more}
use Rattle.pin_recent.proofs.Picked.{picked-append, picked_none, picked_some, same_picked, there_or_not}
use Rattle.pin_recent.proofs.Columns.{length-bare, length-numbers, bare_at}

pub on_ok : {A E P : Type 0} (r : Result A E) → OnOk r P → false ≡ is_err r → P
on_ok (Ok x) h e = h
on_ok (Err x) h e = absurd (true≢false (sym e))

pub on_is_ok : {A E P : Type 0} (r : Result A E) → OnOk r P → IsOk r → P
on_is_ok (Ok x) h e = h
on_is_ok (Err x) h e = absurd (true≢false (sym e))

pub mapped_none : {A B : Type 0} (f : A → B) (o : Option A) (r : Option B) → o ≡ None → r ≡ None → option_map f o ≡ r
mapped_none f o r none also = ap (option_map f) none ∙ sym also

pub front_none : {X : Type 0} (xs : List X) (log : List ℕ) → None ≡ slice_get log 0 → slice_get (picked xs log) 0 ≡ None
front_none xs [] none = refl
front_none xs (q ∷ log) none = absurd (none-some q none)

module _ {K V : Type 0} where
  pub front_is : (es : List (K × Stamped V)) (log : List ℕ) (place : ℕ) (key : K) (st : Stamped V) → Some place ≡ slice_get log 0 → Some (key, st) ≡ slice_get es place
      → Some (key, st.value) ≡ slice_get (picked (bare es) log) 0
  front_is es [] place key st front entry = absurd (none-some place (sym front))
  front_is es (q ∷ log) place key st front entry =
      let same : q ≡ place = same_Some q place (sym front) in
      sym (ap (λ l. slice_get l 0) (picked_some (bare es) q log (key, st.value) (subst (λ p. slice_get (bare es) p ≡ Some (key, st.value)) (sym same) (bare_at es place (key, st) (sym entry)))))

  -- a key that is nowhere is not found among the entries
  pub not_got : (test : K → Bool) (es : List (K × Stamped V)) → Nowhere test (bare es) → lookup test es ≡ None
  not_got test [] nowhere = refl
  not_got test (e ∷ es) nowhere =
      ap (λ b. cond b (Some e.1) (lookup test es)) (nowhere 0 (e.0, e.1.value) refl) ∙ not_got test es (λ p. nowhere (suc p))

  -- a key that the list doesn't have is at none of the log's places
  fails_at : (test : K → Bool) (xs : List (K × V)) (log : List ℕ) (i place : ℕ) (p : K × V) → lookup test (picked xs log) ≡ None → slice_get log i ≡ Some place → slice_get xs place ≡ Some p → test p.0 ≡ false
  fails_at test xs [] i place p absent at has = absurd (none-some place at)
  fails_at test xs (q ∷ log) i place p absent at has = there_or_not (slice_get xs q)
      (λ none. at_hole i none at (λ j here. fails_at test xs log j place p (sym (ap (lookup test) (picked_none xs q log none)) ∙ absent) here has))
      (λ f some.
      let out = head (test f.0) f.1 (lookup test (picked xs log)) (sym (ap (lookup test) (picked_some xs q log f some)) ∙ absent) in
      at_pair i f some out.0 at (λ j here. fails_at test xs log j place p out.1 here has))
    where
      head : (b : Bool) (f : V) (o : Option V) → cond b (Some f) o ≡ None → (b ≡ false) × (o ≡ None)
      head true f o e = absurd (none-some f (sym e))
      head false f o e = (refl, e)

      at_hole : (j : ℕ) → slice_get xs q ≡ None → slice_get (q ∷ log) j ≡ Some place → ((k : ℕ) → slice_get log k ≡ Some place → test p.0 ≡ false) → test p.0 ≡ false
      at_hole zero none here later = absurd (none-some p (sym none ∙ ap (slice_get xs) (same_Some q place here) ∙ has))
      at_hole (suc j) none here later = later j here

      at_pair : (j : ℕ) (f : K × V) → slice_get xs q ≡ Some f → test f.0 ≡ false → slice_get (q ∷ log) j ≡ Some place → ((k : ℕ) → slice_get log k ≡ Some place → test p.0 ≡ false) → test p.0 ≡ false
      at_pair zero f some out here later =
          let same : f ≡ p = same_Some f p (sym some ∙ ap (slice_get xs) (same_Some q place here) ∙ has) in
          ap (λ (r : K × V). test r.0) (sym same) ∙ out
      at_pair (suc j) f some out here later = later j here

  pub nowhere_from_absent : (test : K → Bool) (es : List (K × Stamped V)) (first : ℕ) (log : List ℕ) → Tied first log (numbers es) → lookup test (picked (bare es) log) ≡ None → Nowhere test (bare es)
  nowhere_from_absent test es first log tied absent place p at =
      let within : place < length (bare es) = slice_get_within (bare es) place p at in
      let n = at_below (numbers es) place (omega (arith, within, length-bare es, length-numbers es)) in
      let s = tied.stands place n.0 n.1 in
      fails_at test (bare es) log s.0 place p absent s.2 at

  module _ (es : List (K × Stamped V)) (first : ℕ) (log : List ℕ) (key : K) (st : Stamped V) (fs : List (K × Stamped V)) (place next : ℕ) (after : List ℕ)
      (tied : Tied first log (numbers es)) (few : length es + 1 < 4294967295) (number : st.number ≡ first + length log)
      (fs_is : fs ≡ es ++ (key, st) ∷ []) (place_is : place ≡ length es) (next_is : next ≡ first) (after_is : after ≡ log ++ place ∷ []) where
    pub length_more : length fs ≡ length es + 1
    length_more = ap length fs_is ∙ length-append es ((key, st) ∷ [])

    pub push_tied : Tied next after (numbers fs)
    push_tied =
        let ns : numbers fs ≡ numbers es ++ (first + length log) ∷ [] =
        ap numbers fs_is ∙ map-append (λ (e : K × Stamped V). e.1.number) es ((key, st) ∷ []) ∙ ap (λ (n : ℕ). numbers es ++ n ∷ []) number in
        let at : after ≡ log ++ length (numbers es) ∷ [] = after_is ∙ ap (λ (n : ℕ). log ++ n ∷ []) (place_is ∙ sym (length-numbers es)) in
        let t = one_more first log (numbers es) tied (omega (arith, few, length-numbers es)) in
        subst (λ (n : ℕ). Tied n after (numbers fs)) (sym next_is)
        (subst (λ l. Tied first l (numbers fs)) (sym at) (subst (λ l. Tied first (log ++ length (numbers es) ∷ []) l) (sym ns) t))

    pub push_stored : picked (bare fs) after ≡ picked (bare es) log ++ (key, st.value) ∷ []
    push_stored =
        let xs = bare es in
        let ys = xs ++ (key, st.value) ∷ [] in
        let pairs : bare fs ≡ ys = ap bare fs_is ∙ map-append (λ (e : K × Stamped V). (e.0, e.1.value)) es ((key, st) ∷ []) in
        let last : slice_get ys place ≡ Some (key, st.value) = ap (slice_get ys) (place_is ∙ sym (length-bare es)) ∙ at_last xs (key, st.value) in
        let kept : picked ys log ≡ picked xs log = same_picked ys xs log log refl (λ i p q at_p at_q. same_shown i p at_p ∙ ap (slice_get xs) (one_at log i p q at_p at_q)) in
        ap₂ picked pairs after_is ∙ picked-append ys log (place ∷ []) ∙ ap₂ (λ (a b : List (K × V)). a ++ b) kept (picked_some ys place [] (key, st.value) last)
      where
        same_shown : (i p : ℕ) → slice_get log i ≡ Some p → slice_get (bare es ++ (key, st.value) ∷ []) p ≡ slice_get (bare es) p
        same_shown i p at = ⊎_elim
            (λ below. let e = at_below (bare es) p below in at_longer (bare es) (key, st.value) e.0 p e.1 ∙ sym e.1)
            (λ past.
            let big : 4294967295 ≤ p = tied.holes i p at (omega (arith, past, length-bare es, length-numbers es)) in
            slice_get_past (bare es ++ (key, st.value) ∷ []) p (omega (arith, big, few, length-bare es, length-append (bare es) ((key, st.value) ∷ []))) ∙ sym (slice_get_past (bare es) p past))
            (below_or_not p (length (bare es)))

    pub push_all : length (picked (bare es) log) ≡ length es → length (picked (bare fs) after) ≡ length fs
    push_all all = omega (arith, all, ap length push_stored, length-append (picked (bare es) log) ((key, st.value) ∷ []), length_more)

    pub push_trim : ((p : ℕ) → slice_get log 0 ≡ Some p → p < length es) → (p : ℕ) → slice_get after 0 ≡ Some p → p < length fs
    push_trim trim p at = ⊎_elim
        (λ front. omega (arith, trim p front, length_more))
        (λ last. omega (arith, last.1, place_is, length_more))
        (at_snoc log place p 0 (ap (λ l. slice_get l 0) (sym after_is) ∙ at))
