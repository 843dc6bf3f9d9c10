-- What each step on the log and the numbers keeps tied.
use Rattle.std.proofs.Common.{◌≡◌, ◌≢◌, ℕ, zero, suc, ◌+◌, ◌-◌, ◌<◌, ◌≤◌, ◌⊎◌, inl, inr, ⊎_elim, List, [], ◌∷◌, ◌++◌, length, set, Some, slice_get, refl, sym, ap, ◌∙◌, subst, arith, length-set, length-append}
use Rattle.std.proofs.lemmas.Option.{same_Some, slice_get_within}
use Rattle.pin_recent.specs.Sound.{Tied, TakesOut}
use Rattle.pin_recent.proofs.Places.{same_or_not, at_below, one_at, not_past, set_here, set_else, at_set, at_longer, at_last, at_snoc}

-- a place stands once in the log
pub one_stand : (first : ℕ) (log ns : List ℕ) (i j place number : ℕ) → Tied first log ns → slice_get ns place ≡ Some number → slice_get log i ≡ Some place → slice_get log j ≡ Some place → i ≡ j
one_stand first log ns i j place number tied has at_i at_j =
    let a : number ≡ first + i = tied.once i place number at_i has in
    let b : number ≡ first + j = tied.once j place number at_j has in
    omega arith

-- the place of a number: what is read at the place tells where it stands
pub stands_at : (first : ℕ) (log ns : List ℕ) (place number : ℕ) → Tied first log ns → slice_get ns place ≡ Some number → (first ≤ number) × (number < first + length log) × (slice_get log (number - first) ≡ Some place)
stands_at first log ns place number tied has =
    let s = tied.stands place number has in
    let is : number ≡ first + s.0 = s.1 in
    let within : s.0 < length log = slice_get_within log s.0 place s.2 in
    let at : number - first ≡ s.0 = omega arith in
    (omega arith, omega arith, subst (λ i. slice_get log i ≡ Some place) (sym at) s.2)

-- the first is a hole, and goes
pub without_hole : (first : ℕ) (log ns : List ℕ) (hole : ℕ) → Tied first (hole ∷ log) ns → length ns ≤ hole → Tied (first + 1) log ns
without_hole first log ns hole tied past = record {
  stands = λ place number has.
      let s = tied.stands place number has in
      stands_later s.0 place number has s.1 s.2;
  once = λ i place number at has. let is : number ≡ first + suc i = tied.once (suc i) place number at has in omega arith;
  holes = λ i. tied.holes (suc i);
}
  where
    stands_later : (i place number : ℕ) → slice_get ns place ≡ Some number → number ≡ first + i → slice_get (hole ∷ log) i ≡ Some place → (j : ℕ) × (number ≡ first + 1 + j) × (slice_get log j ≡ Some place)
    stands_later zero place number has is at =
        let same : hole ≡ place = same_Some hole place at in
        absurd (not_past ns place number (omega arith) has)
    stands_later (suc i) place number has is at = (i, omega arith, at)

-- a place is used again: a hole is left, and the place goes to the end under a new number
pub used_again : (first : ℕ) (log ns : List ℕ) (place number hole : ℕ) → Tied first log ns → slice_get ns place ≡ Some number → length ns ≤ hole → 4294967295 ≤ hole
    → Tied first (set log (number - first) hole ++ place ∷ []) (set ns place (first + length log))
used_again first log ns place number hole tied has past big = record {
  stands = λ other n at. ⊎_elim (λ t. stands_last other n t.0 t.1) (λ t. stands_else other n t.0 t.1) (at_set ns place other (first + length log) n at);
  once = λ i other n at is. ⊎_elim (λ t. once_else i other n t is) (λ t. once_last i other n t.0 t.1 is) (at_snoc (set log (number - first) hole) place other i at);
  holes = λ i other at out. ⊎_elim (λ t. holes_else i other t out) (λ t. holes_last other t.1 out) (at_snoc (set log (number - first) hole) place other i at);
}
  where
    was : (first ≤ number) × (number < first + length log) × (slice_get log (number - first) ≡ Some place)
    was = stands_at first log ns place number tied has

    len : length (set log (number - first) hole) ≡ length log
    len = length-set log (number - first) hole

    within : place < length ns
    within = slice_get_within ns place number has

    stands_last : (other n : ℕ) → other ≡ place → first + length log ≡ n → (i : ℕ) × (n ≡ first + i) × (slice_get (set log (number - first) hole ++ place ∷ []) i ≡ Some other)
    stands_last other n same is =
        (length log, sym is, subst (λ i. slice_get (set log (number - first) hole ++ place ∷ []) i ≡ Some other) len (at_last (set log (number - first) hole) place ∙ ap Some (sym same)))

    stands_else : (other n : ℕ) → other ≢ place → slice_get ns other ≡ Some n → (i : ℕ) × (n ≡ first + i) × (slice_get (set log (number - first) hole ++ place ∷ []) i ≡ Some other)
    stands_else other n differs at =
        let s = tied.stands other n at in
        let apart : s.0 ≢ number - first = λ e. differs (one_at log (number - first) other place (subst (λ i. slice_get log i ≡ Some other) e s.2) was.2) in
        (s.0, s.1, at_longer (set log (number - first) hole) place other s.0 (set_else log (number - first) s.0 hole apart ∙ s.2))

    once_last : (i other n : ℕ) → i ≡ length (set log (number - first) hole) → place ≡ other → slice_get (set ns place (first + length log)) other ≡ Some n → n ≡ first + i
    once_last i other n at same is =
        let new : first + length log ≡ n = one_at (set ns place (first + length log)) place (first + length log) n (set_here ns place (first + length log) within) (subst (λ p. slice_get (set ns place (first + length log)) p ≡ Some n) (sym same) is) in
        omega (arith, len)

    once_else : (i other n : ℕ) → slice_get (set log (number - first) hole) i ≡ Some other → slice_get (set ns place (first + length log)) other ≡ Some n → n ≡ first + i
    once_else i other n at is = ⊎_elim
        (λ t. let same : hole ≡ other = t.1 in
        let in_ns : other < length (set ns place (first + length log)) = slice_get_within (set ns place (first + length log)) other n is in
        absurd (omega (arith, length-set ns place (first + length log))))
        (λ t. once_kept i other n t.0 t.1 (at_set ns place other (first + length log) n is))
        (at_set log (number - first) i hole other at)
      where
        once_kept : (i other n : ℕ) → i ≢ number - first → slice_get log i ≡ Some other → ((other ≡ place) × (first + length log ≡ n)) ⊎ ((other ≢ place) × (slice_get ns other ≡ Some n)) → n ≡ first + i
        once_kept i other n apart at (inl t) =
            absurd (apart (one_stand first log ns i (number - first) place number tied has (subst (λ p. slice_get log i ≡ Some p) t.0 at) was.2))
        once_kept i other n apart at (inr t) = tied.once i other n at t.1

    holes_last : (other : ℕ) → place ≡ other → length (set ns place (first + length log)) ≤ other → 4294967295 ≤ other
    holes_last other same out = absurd (omega (arith, within, length-set ns place (first + length log)))

    holes_else : (i other : ℕ) → slice_get (set log (number - first) hole) i ≡ Some other → length (set ns place (first + length log)) ≤ other → 4294967295 ≤ other
    holes_else i other at out = ⊎_elim
        (λ t. omega (arith, t.1))
        (λ t. tied.holes i other t.1 (omega (arith, length-set ns place (first + length log))))
        (at_set log (number - first) i hole other at)

-- a new entry goes last, and its place to the end of the log
pub one_more : (first : ℕ) (log ns : List ℕ) → Tied first log ns → length ns < 4294967295 → Tied first (log ++ length ns ∷ []) (ns ++ (first + length log) ∷ [])
one_more first log ns tied few = record {
  stands = λ place n at. ⊎_elim (λ t. stands_else place n t) (λ t. stands_last place n t.0 t.1) (at_snoc ns (first + length log) n place at);
  once = λ i place n at is. ⊎_elim (λ t. once_else i place n t (at_snoc ns (first + length log) n place is)) (λ t. once_last i place n t.0 t.1 is) (at_snoc log (length ns) place i at);
  holes = λ i place at out. ⊎_elim (λ t. tied.holes i place t (omega (arith, length-append ns ((first + length log) ∷ [])))) (λ t. absurd (omega (arith, t.1, length-append ns ((first + length log) ∷ [])))) (at_snoc log (length ns) place i at);
}
  where
    stands_else : (place n : ℕ) → slice_get ns place ≡ Some n → (i : ℕ) × (n ≡ first + i) × (slice_get (log ++ length ns ∷ []) i ≡ Some place)
    stands_else place n at = let s = tied.stands place n at in (s.0, s.1, at_longer log (length ns) place s.0 s.2)

    stands_last : (place n : ℕ) → place ≡ length ns → first + length log ≡ n → (i : ℕ) × (n ≡ first + i) × (slice_get (log ++ length ns ∷ []) i ≡ Some place)
    stands_last place n same is = (length log, sym is, at_last log (length ns) ∙ ap Some (sym same))

    once_else : (i place n : ℕ) → slice_get log i ≡ Some place → (slice_get ns place ≡ Some n) ⊎ ((place ≡ length ns) × (first + length log ≡ n)) → n ≡ first + i
    once_else i place n at (inl t) = tied.once i place n at t
    once_else i place n at (inr t) = let big : 4294967295 ≤ place = tied.holes i place at (omega (arith, t.0)) in absurd (omega (arith, t.0))

    once_last : (i place n : ℕ) → i ≡ length log → length ns ≡ place → slice_get (ns ++ (first + length log) ∷ []) place ≡ Some n → n ≡ first + i
    once_last i place n at same is =
        let new : first + length log ≡ n = one_at (ns ++ (first + length log) ∷ []) (length ns) (first + length log) n (at_last ns (first + length log)) (subst (λ p. slice_get (ns ++ (first + length log) ∷ []) p ≡ Some n) (sym same) is) in
        omega arith

-- the first place is taken out, and the last place's number took its place
module _ (first : ℕ) (log ns ms : List ℕ) (gone last : ℕ) (tied : Tied first (gone ∷ log) ns) (out : TakesOut gone last ns ms) where
  pub not_again : gone ≤ last → (i : ℕ) → slice_get log i ≡ Some gone → ⊥
  not_again within i at =
      let e = at_below ns gone (omega (arith, out.before)) in
      let same : 0 ≡ suc i = one_stand first (gone ∷ log) ns 0 (suc i) gone e.0 tied e.1 refl at in
      absurd (omega arith)

  old_at : (place n : ℕ) → place ≢ gone → slice_get ms place ≡ Some n → slice_get ns place ≡ Some n
  old_at place n differs at =
      let within : place < length ms = slice_get_within ms place n at in
      sym (out.kept place (omega (arith, out.after)) differs) ∙ at

  pub stands_kept : (place n : ℕ) → place ≢ gone → slice_get ns place ≡ Some n → (i : ℕ) × (n ≡ first + 1 + i) × (slice_get log i ≡ Some place)
  stands_kept place n differs has = let s = tied.stands place n has in by s.0 s.1 s.2
    where
      by : (i : ℕ) → n ≡ first + i → slice_get (gone ∷ log) i ≡ Some place → (j : ℕ) × (n ≡ first + 1 + j) × (slice_get log j ≡ Some place)
      by zero is at = absurd (differs (sym (same_Some gone place at)))
      by (suc i) is at = (i, omega arith, at)

  -- where it was itself the last
  pub without_last : gone ≡ last → Tied (first + 1) log ms
  without_last same = record {
    stands = λ place n at.
        let within : place < length ms = slice_get_within ms place n at in
        let differs : place ≢ gone = λ e. omega (arith, e, out.after) in
        stands_kept place n differs (old_at place n differs at);
    once = λ i place n at has.
        let within : place < length ms = slice_get_within ms place n has in
        let differs : place ≢ gone = λ e. omega (arith, e, out.after) in
        let is : n ≡ first + suc i = tied.once (suc i) place n at (old_at place n differs has) in
        omega arith;
    holes = λ i place at past. ⊎_elim
        (λ e. absurd (not_again (omega arith) i (subst (λ p. slice_get log i ≡ Some p) e at)))
        (λ differs. tied.holes (suc i) place at (omega (arith, out.before, out.after)))
        (same_or_not place gone);
  }

  -- where another was the last
  module _ (below : gone < last) (j number : ℕ) (is : number ≡ first + 1 + j) (stood : slice_get log j ≡ Some last) (has : slice_get ms gone ≡ Some number) where
    moved_stands : (place n : ℕ) → slice_get ms place ≡ Some n → (i : ℕ) × (n ≡ first + 1 + i) × (slice_get (set log j gone) i ≡ Some place)
    moved_stands place n at = ⊎_elim
        (λ e. let same : number ≡ n = one_at ms gone number n has (subst (λ p. slice_get ms p ≡ Some n) e at) in
        (j, sym same ∙ is, set_here log j gone (slice_get_within log j last stood) ∙ ap Some (sym e)))
        (λ differs.
        let s = stands_kept place n differs (old_at place n differs at) in
        let within : place < length ms = slice_get_within ms place n at in
        let apart : s.0 ≢ j = λ e. let same : place ≡ last = one_at log j place last (subst (λ i. slice_get log i ≡ Some place) e s.2) stood in omega (arith, out.after) in
        (s.0, s.1, set_else log j s.0 gone apart ∙ s.2))
        (same_or_not place gone)

    moved_once : (i place n : ℕ) → slice_get (set log j gone) i ≡ Some place → slice_get ms place ≡ Some n → n ≡ first + 1 + i
    moved_once i place n at at_ms = ⊎_elim
        (λ t. let same : number ≡ n = one_at ms gone number n has (subst (λ p. slice_get ms p ≡ Some n) (sym t.1) at_ms) in omega (arith, t.0))
        (λ t.
        let differs : place ≢ gone = λ e. not_again (omega arith) i (subst (λ p. slice_get log i ≡ Some p) e t.1) in
        let was : n ≡ first + suc i = tied.once (suc i) place n t.1 (old_at place n differs at_ms) in
        omega arith)
        (at_set log j i gone place at)

    moved_holes : (i place : ℕ) → slice_get (set log j gone) i ≡ Some place → length ms ≤ place → 4294967295 ≤ place
    moved_holes i place at past = ⊎_elim
        (λ t. absurd (omega (arith, t.1, out.after)))
        (λ t.
        let e = at_below ns last (omega (arith, out.before)) in
        let differs : place ≢ last = λ same. t.0 (omega (arith, one_stand first (gone ∷ log) ns (suc i) (suc j) last e.0 tied e.1 (subst (λ p. slice_get log i ≡ Some p) same t.1) stood)) in
        tied.holes (suc i) place t.1 (omega (arith, out.before, out.after)))
        (at_set log j i gone place at)

    pub with_moved : Tied (first + 1) (set log j gone) ms
    with_moved = record { stands = moved_stands; once = moved_once; holes = moved_holes }
