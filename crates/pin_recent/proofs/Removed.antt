-- A pair is taken out of the middle: a hole stands in the log where it stood, and the last entry moves to its place. It is as if the
-- pair had been the oldest one: with its place before the log, and all numbers one more, the front is taken out.
use Rattle.std.proofs.Common.{◌≡◌, ◌≢◌, ℕ, zero, suc, ◌+◌, ◌-◌, ◌<◌, ◌≤◌, ◌⊎◌, inl, inr, ⊎_elim, Bool, List, [], ◌∷◌, map, length, set, swap_remove, Option, None, Some, slice_get, option_map, refl, sym, ap, ap₂, ◌∙◌, subst, arith, length-set}
use Rattle.std.proofs.lemmas.Option.{none-some, same_Some, slice_get_within, slice_get_past, slice_get-map}
use Rattle.std.specs.Map.{lookup, remove_entry}
use Rattle.std.specs.Option.{option_map_or}
use lib.ListN.{length-map}
use Rattle.pin_recent.specs.declared.stamped.Stamped.{Stamped}
use Rattle.pin_recent.specs.Sound.{Tied, TakesOut, OnlyAt, picked, settled, bare, numbers}
use Rattle.pin_recent.proofs.Places.{one_at, set_else, at_set}
use Rattle.pin_recent.proofs.Order.{one_stand, stands_at}
use Rattle.pin_recent.proofs.Picked.{found, length-hole, removed_is}
use Rattle.pin_recent.proofs.Columns.{length-bare, length-numbers, bare_at, number_at}
use Rattle.pin_recent.proofs.Pop.{takes_out, TakesOut-map, settles_within, pops_tied, pops_picked}

unmapped : (ns : List ℕ) (p n : ℕ) → slice_get (map suc ns) p ≡ Some n → (m : ℕ) × (n ≡ suc m) × (slice_get ns p ≡ Some m)
unmapped [] p n at = absurd (none-some n at)
unmapped (x ∷ ns) zero n at = (x, sym (same_Some (suc x) n at), refl)
unmapped (x ∷ ns) (suc p) n at = unmapped ns p n at

module _ (first : ℕ) (log ns ms : List ℕ) (gone last number : ℕ) (tied : Tied first log ns) (at : slice_get ns gone ≡ Some number)
    (out : TakesOut gone last ns ms) (few : length ns < 4294967295) where
  stood : (first ≤ number) × (number < first + length log) × (slice_get log (number - first) ≡ Some gone)
  stood = stands_at first log ns gone number tied at

  inside : gone < length ns
  inside = slice_get_within ns gone number at

  one : (i : ℕ) → slice_get log i ≡ Some gone → i ≡ number - first
  one i here = one_stand first log ns i (number - first) gone number tied at here stood.2

  abbrev holed : List ℕ
  holed = set log (number - first) 4294967295

  -- the numbers, each one more, where the one that goes has the number before all others
  abbrev shifted : List ℕ
  shifted = set (map suc ns) gone first

  abbrev left : List ℕ
  left = map suc ms

  length-shifted : length shifted ≡ length ns
  length-shifted = length-set (map suc ns) gone first ∙ length-map ns suc

  number_there : (p n : ℕ) → slice_get shifted p ≡ Some n
      → ((p ≡ gone) × (first ≡ n)) ⊎ ((m : ℕ) × (p ≢ gone) × (n ≡ suc m) × (slice_get ns p ≡ Some m))
  number_there p n here = ⊎_elim
      (λ t. inl t)
      (λ t. let u = unmapped ns p n t.1 in inr (u.0, t.0, u.1, u.2))
      (at_set (map suc ns) gone p first n here)

  front_stands : (p n : ℕ) → slice_get shifted p ≡ Some n → (i : ℕ) × (n ≡ first + i) × (slice_get (gone ∷ holed) i ≡ Some p)
  front_stands p n here = ⊎_elim
      (λ t. (0, omega (arith, t.1), ap (λ (q : ℕ). Some q) (sym t.0)))
      (λ t.
      let s = tied.stands p t.0 t.3 in
      let apart : s.0 ≢ number - first = λ same. t.1 (one_at log (number - first) p gone (subst (λ k. slice_get log k ≡ Some p) same s.2) stood.2) in
      (suc s.0, omega (arith, t.2, s.1), set_else log (number - first) s.0 4294967295 apart ∙ s.2))
      (number_there p n here)

  front_once : (i p n : ℕ) → slice_get (gone ∷ holed) i ≡ Some p → slice_get shifted p ≡ Some n → n ≡ first + i
  front_once zero p n here has = ⊎_elim
      (λ t. omega (arith, t.1))
      (λ t. absurd (t.1 (sym (same_Some gone p here))))
      (number_there p n has)
  front_once (suc i) p n here has = ⊎_elim
      (λ u.
      let within : p < length shifted = slice_get_within shifted p n has in
      absurd (omega (arith, few, length-shifted, within, u.1)))
      (λ u. ⊎_elim
      (λ t. absurd (u.0 (one i (subst (λ q. slice_get log i ≡ Some q) t.0 u.1))))
      (λ t. let o = tied.once i p t.0 u.1 t.3 in omega (arith, t.2, o))
      (number_there p n has))
      (at_set log (number - first) i 4294967295 p here)

  front_holes : (i p : ℕ) → slice_get (gone ∷ holed) i ≡ Some p → length shifted ≤ p → 4294967295 ≤ p
  front_holes zero p here past = absurd (omega (arith, inside, length-shifted, past, same_Some gone p here))
  front_holes (suc i) p here past = ⊎_elim
      (λ u. omega (arith, u.1))
      (λ u. tied.holes i p u.1 (omega (arith, past, length-shifted)))
      (at_set log (number - first) i 4294967295 p here)

  fronted : Tied first (gone ∷ holed) shifted
  fronted = record { stands = front_stands; once = front_once; holes = front_holes }

  takes : TakesOut gone last shifted left
  takes = record {
    before = length-shifted ∙ out.before;
    after = length-map ms suc ∙ out.after;
    kept = λ p below differs. slice_get-map suc ms p ∙ ap (option_map suc) (out.kept p below differs) ∙ sym (slice_get-map suc ns p)
        ∙ sym (set_else (map suc ns) gone p first differs);
    moved = λ below. slice_get-map suc ms gone ∙ ap (option_map suc) (out.moved below) ∙ sym (slice_get-map suc ns last)
        ∙ sym (set_else (map suc ns) gone last first (λ same. omega (arith, below, same)));
  }

  within_last : gone ≤ last
  within_last = omega (arith, inside, out.before)

  settled_alike : settled (first + 1) left gone holed ≡ settled first ms gone holed
  settled_alike =
      ap (λ o. option_map_or (λ (n : ℕ). set holed (n - (first + 1)) gone) o holed) (slice_get-map suc ms gone) ∙ go (slice_get ms gone)
    where
      go : (o : Option ℕ) → option_map_or (λ (n : ℕ). set holed (n - (first + 1)) gone) (option_map suc o) holed
          ≡ option_map_or (λ (n : ℕ). set holed (n - first) gone) o holed
      go None = refl
      go (Some n) = ap (λ (k : ℕ). set holed k gone) (omega arith)

  unshifted : (l : List ℕ) → Tied (first + 1) l left → Tied first l ms
  unshifted l t = record {
    stands = λ p n here.
        let s = t.stands p (suc n) (slice_get-map suc ms p ∙ ap (option_map suc) here) in
        (s.0, omega (arith, s.1), s.2);
    once = λ i p n here has. omega (arith, t.once i p (suc n) here (slice_get-map suc ms p ∙ ap (option_map suc) has));
    holes = λ i p here past. t.holes i p here (omega (arith, past, length-map ms suc));
  }

  pub removes_tied : Tied first (settled first ms gone holed) ms
  removes_tied =
      subst (λ l. Tied first l ms) settled_alike
      (unshifted (settled (first + 1) left gone holed) (pops_tied first holed shifted left gone last fronted takes within_last))

  pub removes_within : (n : ℕ) → slice_get ms gone ≡ Some n → (first ≤ n) × (n < first + length holed)
  removes_within n here =
      let w = settles_within first holed shifted left gone last fronted takes within_last (suc n) (slice_get-map suc ms gone ∙ ap (option_map suc) here) in
      (omega (arith, w.0), omega (arith, w.1))

  pub removes_picked : {X : Type 0} (xs ys : List X) → TakesOut gone last xs ys → picked ys (settled first ms gone holed) ≡ picked xs holed
  removes_picked xs ys t = ap (picked ys) (sym settled_alike) ∙ pops_picked first holed shifted left gone last fronted takes within_last xs ys t

module _ {K V : Type 0} (es fs : List (K × Stamped V)) (first : ℕ) (log : List ℕ) (place : ℕ) (e : K × Stamped V)
    (tied : Tied first log (numbers es)) (few : length es < 4294967295) (entry : Some e ≡ slice_get es place) (left : fs ≡ swap_remove es place e) where
  has : slice_get es place ≡ Some e
  has = sym entry

  within : place < length es
  within = slice_get_within es place e has

  out : TakesOut place (length es - 1) es fs
  out = subst (λ l. TakesOut place (length es - 1) es l) (sym left) (takes_out es place e within)

  out_numbers : TakesOut place (length es - 1) (numbers es) (numbers fs)
  out_numbers = TakesOut-map (λ (x : K × Stamped V). x.1.number) es fs place (length es - 1) out

  out_bare : TakesOut place (length es - 1) (bare es) (bare fs)
  out_bare = TakesOut-map (λ (x : K × Stamped V). (x.0, x.1.value)) es fs place (length es - 1) out

  at : slice_get (numbers es) place ≡ Some e.1.number
  at = number_at es place e has

  pair : slice_get (bare es) place ≡ Some (e.0, e.1.value)
  pair = bare_at es place e has

  few_numbers : length (numbers es) < 4294967295
  few_numbers = omega (arith, few, length-numbers es)

  pub stands_there : (first ≤ e.1.number) × (e.1.number < first + length log) × (slice_get log (e.1.number - first) ≡ Some place)
  stands_there = stands_at first log (numbers es) place e.1.number tied at

  only_there : (i : ℕ) → slice_get log i ≡ Some place → i ≡ e.1.number - first
  only_there i here = one_stand first log (numbers es) i (e.1.number - first) place e.1.number tied at here stands_there.2

  pub length_left : length fs + 1 ≡ length es
  length_left = omega (arith, out.after, out.before)

  pub removed_found : (test : K → Bool) → OnlyAt test place (bare es) → lookup test (picked (bare es) log) ≡ Some e.1.value
  removed_found test only = found test (bare es) log (e.1.number - first) place (e.0, e.1.value) only stands_there.2 pair only_there

  module _ (put_first : ℕ) (put : List ℕ) (first_is : put_first ≡ first) (put_is : put ≡ set log (e.1.number - first) 4294967295) where
    pub removed_within : (n : ℕ) → slice_get (numbers fs) place ≡ Some n → (put_first ≤ n) × (n < put_first + length put)
    removed_within n here =
        let w = removes_within first log (numbers es) (numbers fs) place (length es - 1) e.1.number tied at out_numbers few_numbers n here in
        (omega (arith, first_is, w.0), omega (arith, first_is, ap length put_is, w.1))

    module _ (gs : List (K × Stamped V)) (now : ℕ) (after : List ℕ) (gs_is : gs ≡ fs) (now_is : now ≡ put_first)
        (after_is : after ≡ settled put_first (numbers fs) place put) where
      after_put : after ≡ settled first (numbers fs) place (set log (e.1.number - first) 4294967295)
      after_put = after_is ∙ ap₂ (λ (n : ℕ) (l : List ℕ). settled n (numbers fs) place l) first_is put_is

      pub removed_tied : Tied now after (numbers gs)
      removed_tied =
          let t = removes_tied first log (numbers es) (numbers fs) place (length es - 1) e.1.number tied at out_numbers few_numbers in
          subst (λ (n : ℕ). Tied n after (numbers gs)) (sym (now_is ∙ first_is))
          (subst (λ l. Tied first l (numbers gs)) (sym after_put)
          (subst (λ l. Tied first (settled first (numbers fs) place (set log (e.1.number - first) 4294967295)) (numbers l)) (sym gs_is) t))

      pub removed_picked : picked (bare gs) after ≡ picked (bare es) (set log (e.1.number - first) 4294967295)
      removed_picked =
          ap₂ (λ (l : List (K × Stamped V)) (m : List ℕ). picked (bare l) m) gs_is after_put
          ∙ removes_picked first log (numbers es) (numbers fs) place (length es - 1) e.1.number tied at out_numbers few_numbers (bare es) (bare fs) out_bare

      pub removed_all : length (picked (bare es) log) ≡ length es → length (picked (bare gs) after) ≡ length gs
      removed_all all =
          let less = length-hole (bare es) log (e.1.number - first) place 4294967295 (e.0, e.1.value) stands_there.2 pair
          (slice_get_past (bare es) 4294967295 (omega (arith, few, length-bare es))) in
          omega (arith, all, less, ap length removed_picked, length_left, ap length gs_is)

      pub removed_stored : (test : K → Bool) → OnlyAt test place (bare es) → picked (bare gs) after ≡ remove_entry test (picked (bare es) log)
      removed_stored test only =
          removed_picked
          ∙ removed_is test (bare es) log (e.1.number - first) place (e.0, e.1.value) only stands_there.2 pair only_there 4294967295 (omega (arith, few, length-bare es))
