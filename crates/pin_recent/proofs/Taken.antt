-- The oldest pair is taken out.
use Rattle.std.proofs.Common.{◌≡◌, ℕ, ◌+◌, ◌-◌, ◌<◌, ◌≤◌, List, ◌∷◌, length, swap_remove, Some, slice_get, sym, ap, ap₂, ◌∙◌, subst, arith}
use Rattle.std.proofs.lemmas.Option.{slice_get_within}
use Rattle.pin_recent.specs.declared.stamped.Stamped.{Stamped}
use Rattle.pin_recent.specs.Sound.{Tied, TakesOut, picked, settled, bare, numbers}
use Rattle.pin_recent.proofs.Picked.{picked_some}
use Rattle.pin_recent.proofs.Columns.{bare_at}
use Rattle.pin_recent.proofs.Pop.{takes_out, TakesOut-map, settles_within, pops_tied, pops_picked}

module _ {K V : Type 0} (es fs : List (K × Stamped V)) (first next : ℕ) (log rest : List ℕ) (place : ℕ) (key : K) (st : Stamped V)
    (tied : Tied first log (numbers es)) (is : log ≡ place ∷ rest) (next_is : next ≡ first + 1)
    (entry : Some (key, st) ≡ slice_get es place) (left : fs ≡ swap_remove es place (key, st)) where
  has : slice_get es place ≡ Some (key, st)
  has = sym entry

  within : place < length es
  within = slice_get_within es place (key, st) has

  out : TakesOut place (length es - 1) es fs
  out = subst (λ l. TakesOut place (length es - 1) es l) (sym left) (takes_out es place (key, st) within)

  out_numbers : TakesOut place (length es - 1) (numbers es) (numbers fs)
  out_numbers = TakesOut-map (λ (e : K × Stamped V). e.1.number) es fs place (length es - 1) out

  out_bare : TakesOut place (length es - 1) (bare es) (bare fs)
  out_bare = TakesOut-map (λ (e : K × Stamped V). (e.0, e.1.value)) es fs place (length es - 1) out

  fronted : Tied first (place ∷ rest) (numbers es)
  fronted = subst (λ l. Tied first l (numbers es)) is tied

  pub length_left : length fs + 1 ≡ length es
  length_left = omega (arith, out.after, out.before)

  pub taken_within : (number : ℕ) → slice_get (numbers fs) place ≡ Some number → (next ≤ number) × (number < next + length rest)
  taken_within number at =
      let w = settles_within first rest (numbers es) (numbers fs) place (length es - 1) fronted out_numbers (omega (arith, within)) number at in
      (omega (arith, next_is, w.0), omega (arith, next_is, w.1))

  pub oldest_is : picked (bare es) log ≡ (key, st.value) ∷ picked (bare es) rest
  oldest_is = ap (picked (bare es)) is ∙ picked_some (bare es) place rest (key, st.value) (bare_at es place (key, st) has)

  module _ (gs : List (K × Stamped V)) (now : ℕ) (after : List ℕ) (gs_is : gs ≡ fs) (now_is : now ≡ next) (after_is : after ≡ settled next (numbers fs) place rest) where
    at_next : after ≡ settled (first + 1) (numbers fs) place rest
    at_next = after_is ∙ ap (λ (n : ℕ). settled n (numbers fs) place rest) next_is

    pub taken_tied : Tied now after (numbers gs)
    taken_tied =
        let t = pops_tied first rest (numbers es) (numbers fs) place (length es - 1) fronted out_numbers (omega (arith, within)) in
        subst (λ (n : ℕ). Tied n after (numbers gs)) (sym (now_is ∙ next_is))
        (subst (λ l. Tied (first + 1) l (numbers gs)) (sym at_next)
        (subst (λ l. Tied (first + 1) (settled (first + 1) (numbers fs) place rest) (numbers l)) (sym gs_is) t))

    pub taken_picked : picked (bare gs) after ≡ picked (bare es) rest
    taken_picked =
        ap₂ (λ (l : List (K × Stamped V)) (m : List ℕ). picked (bare l) m) gs_is at_next
        ∙ pops_picked first rest (numbers es) (numbers fs) place (length es - 1) fronted out_numbers (omega (arith, within)) (bare es) (bare fs) out_bare

    pub taken_all : length (picked (bare es) log) ≡ length es → length (picked (bare gs) after) ≡ length gs
    taken_all all = omega (arith, all, ap length oldest_is, ap length taken_picked, length_left, ap length gs_is)
