-- The first place of the log is taken out of the map, and the last entry moves there.
use Rattle.std.proofs.Common.{◌≡◌, ◌≢◌, ℕ, zero, suc, ◌+◌, ◌-◌, ◌<◌, ◌≤◌, ⊎_elim, List, [], ◌∷◌, map, length, take, set, get_or, swap_remove, Some, slice_get, option_map, refl, sym, ap, ◌∙◌, subst, arith, length-set, length-take}
use Rattle.std.proofs.lemmas.Option.{slice_get_within, slice_get_past, slice_get-map, slice_get-get_or}
use Rattle.std.specs.Option.{option_map_or}
use lib.ListN.{length-map}
use Rattle.pin_recent.specs.Sound.{Tied, TakesOut, picked, settled}
use Rattle.pin_recent.proofs.Places.{same_or_not, below_or_not, at_below, one_at, set_here, set_else, at_set}
use Rattle.pin_recent.proofs.Order.{one_stand, not_again, stands_kept, without_last, with_moved}
use Rattle.pin_recent.proofs.Picked.{same_picked}

module _ {A : Type 0} where
  at_take : (xs : List A) (n i : ℕ) → i < n → slice_get (take n xs) i ≡ slice_get xs i
  at_take xs zero i h = absurd (omega arith)
  at_take [] (suc n) i h = refl
  at_take (x ∷ xs) (suc n) zero h = refl
  at_take (x ∷ xs) (suc n) (suc i) h = at_take xs n i (omega arith)

  pub takes_out : (xs : List A) (i : ℕ) (d : A) → i < length xs → TakesOut i (length xs - 1) xs (swap_remove xs i d)
  takes_out xs i d within =
      let n = length xs - 1 in
      let v = get_or xs n d in
      record {
        before = omega arith;
        after = length-take n (set xs i v) ∙ omega (arith, length-set xs i v);
        kept = λ place below differs. at_take (set xs i v) n place below ∙ set_else xs i place v differs;
        moved = λ below. at_take (set xs i v) n i below ∙ set_here xs i v within ∙ sym (slice_get-get_or xs n d (omega arith));
      }

  pub TakesOut-map : {B : Type 0} (f : A → B) (xs ys : List A) (gone last : ℕ) → TakesOut gone last xs ys → TakesOut gone last (map f xs) (map f ys)
  TakesOut-map f xs ys gone last out = record {
    before = length-map xs f ∙ out.before;
    after = length-map ys f ∙ out.after;
    kept = λ place below differs. slice_get-map f ys place ∙ ap (option_map f) (out.kept place below differs) ∙ sym (slice_get-map f xs place);
    moved = λ below. slice_get-map f ys gone ∙ ap (option_map f) (out.moved below) ∙ sym (slice_get-map f xs last);
  }

module _ (first : ℕ) (log ns ms : List ℕ) (gone last : ℕ) (tied : Tied first (gone ∷ log) ns) (out : TakesOut gone last ns ms) (within : gone ≤ last) where
  -- where the moved entry's number stands
  moved_at : gone < last → (number : ℕ) → slice_get ms gone ≡ Some number → (first + 1 ≤ number) × (number ≡ first + 1 + (number - (first + 1))) × (slice_get log (number - (first + 1)) ≡ Some last)
  moved_at below number has =
      let s = stands_kept first log ns ms gone last tied out last number (λ e. omega arith) (sym (out.moved below) ∙ has) in
      let at : number - (first + 1) ≡ s.0 = omega (arith, s.1) in
      (omega (arith, s.1), omega (arith, s.1), subst (λ i. slice_get log i ≡ Some last) (sym at) s.2)

  pub settles_within : (number : ℕ) → slice_get ms gone ≡ Some number → (first + 1 ≤ number) × (number < first + 1 + length log)
  settles_within number has =
      let inside : gone < length ms = slice_get_within ms gone number has in
      let m = moved_at (omega (arith, out.after)) number has in
      let in_log : number - (first + 1) < length log = slice_get_within log (number - (first + 1)) last m.2 in
      (m.0, omega (arith, m.1))

  unsettled : gone ≡ last → settled (first + 1) ms gone log ≡ log
  unsettled same = ap (λ o. option_map_or (λ (n : ℕ). set log (n - (first + 1)) gone) o log) (slice_get_past ms gone (omega (arith, out.after)))

  resettled : (number : ℕ) → slice_get ms gone ≡ Some number → settled (first + 1) ms gone log ≡ set log (number - (first + 1)) gone
  resettled number has = ap (λ o. option_map_or (λ (n : ℕ). set log (n - (first + 1)) gone) o log) has

  below_last : gone ≢ last → gone < last
  below_last differs = omega arith

  pub pops_tied : Tied (first + 1) (settled (first + 1) ms gone log) ms
  pops_tied = ⊎_elim
      (λ same. subst (λ l. Tied (first + 1) l ms) (sym (unsettled same)) (without_last first log ns ms gone last tied out same))
      (λ differs.
      let below = below_last differs in
      let e = at_below ms gone (omega (arith, out.after)) in
      let m = moved_at below e.0 e.1 in
      subst (λ l. Tied (first + 1) l ms) (sym (resettled e.0 e.1)) (with_moved first log ns ms gone last tied out below (e.0 - (first + 1)) e.0 m.1 m.2 e.1))
      (same_or_not gone last)

  module _ {X : Type 0} (xs ys : List X) (takes : TakesOut gone last xs ys) where
    same_shown : (p : ℕ) → p ≢ gone → p ≢ last → slice_get ys p ≡ slice_get xs p
    same_shown p not_gone not_last = ⊎_elim
        (λ below. takes.kept p below not_gone)
        (λ past. slice_get_past ys p (omega (arith, takes.after)) ∙ sym (slice_get_past xs p (omega (arith, takes.before))))
        (below_or_not p last)

    pub pops_picked : picked ys (settled (first + 1) ms gone log) ≡ picked xs log
    pops_picked = ⊎_elim
        (λ same. ap (picked ys) (unsettled same) ∙ same_picked ys xs log log refl
        (λ i p q at_p at_q.
        let one : p ≡ q = one_at log i p q at_p at_q in
        let not_gone : p ≢ gone = λ e. not_again first log ns ms gone last tied out within i (subst (λ r. slice_get log i ≡ Some r) e at_p) in
        same_shown p not_gone (λ e. not_gone (e ∙ sym same)) ∙ ap (slice_get xs) one))
        (λ differs.
        let below = below_last differs in
        let e = at_below ms gone (omega (arith, out.after)) in
        let m = moved_at below e.0 e.1 in
        let j = e.0 - (first + 1) in
        ap (picked ys) (resettled e.0 e.1) ∙ same_picked ys xs (set log j gone) log (length-set log j gone)
        (λ i p q at_p at_q. ⊎_elim
        (λ t. let is_last : last ≡ q = one_at log j last q m.2 (subst (λ k. slice_get log k ≡ Some q) t.0 at_q) in
        ap (slice_get ys) (sym t.1) ∙ takes.moved below ∙ ap (slice_get xs) is_last)
        (λ t. let one : p ≡ q = one_at log i p q t.1 at_q in
        let not_gone : p ≢ gone = λ e. not_again first log ns ms gone last tied out within i (subst (λ r. slice_get log i ≡ Some r) e t.1) in
        let not_last : p ≢ last = λ same.
        let has = at_below ns last (omega (arith, out.before)) in
        let again : suc i ≡ suc j = one_stand first (gone ∷ log) ns (suc i) (suc j) last has.0 tied has.1 (subst (λ r. slice_get log i ≡ Some r) same t.1) m.2 in
        t.0 (omega arith) in
        same_shown p not_gone not_last ∙ ap (slice_get xs) one)
        (at_set log j i gone p at_p)))
        (same_or_not gone last)
