-- One turn of the log: its first place goes to its end.
use Rattle.std.proofs.Common.{◌≡◌, ℕ, suc, ◌+◌, ◌-◌, ◌<◌, ◌≤◌, Bool, true, false, List, [], ◌∷◌, ◌++◌, length, take, drop, set, if◌then◌else◌, nat_lt, refl, sym, ap, ◌∙◌, subst, arith, length-set, length-append, ltb-true, ltb-false}
use Rattle.std.proofs.lemmas.Option.{slice_get_past}
use Rattle.indexmap.specs.Layout.{set_value_at}
use Rattle.pin_recent.specs.declared.stamped.Stamped.{Stamped}
use Rattle.pin_recent.specs.Sound.{Tied, picked, numbers, turned}
use Rattle.pin_recent.proofs.Places.{at_below}
use Rattle.pin_recent.proofs.Order.{used_again, without_hole}
use Rattle.pin_recent.proofs.Picked.{picked-append, picked_some, turns_hole, turns_place, drop-longer}
use Rattle.pin_recent.proofs.Columns.{length-numbers, numbers-set}

turn_tied : (first : ℕ) (rest ns : List ℕ) (place : ℕ) → Tied first (place ∷ rest) ns → place < length ns → length ns < 4294967295
    → Tied (first + 1) (rest ++ place ∷ []) (set ns place (first + length (place ∷ rest)))
turn_tied first rest ns place tied within few =
    let e = at_below ns place within in
    let is : e.0 ≡ first + 0 = tied.once 0 place e.0 refl e.1 in
    let at : e.0 - first ≡ 0 = omega arith in
    let new = set ns place (first + length (place ∷ rest)) in
    let again : Tied first (4294967295 ∷ (rest ++ place ∷ [])) new =
    subst (λ i. Tied first (set (place ∷ rest) i 4294967295 ++ place ∷ []) new) at (used_again first (place ∷ rest) ns place e.0 4294967295 tied e.1 (omega arith) (omega arith)) in
    without_hole first (rest ++ place ∷ []) new 4294967295 again (omega (arith, length-set ns place (first + length (place ∷ rest))))

module _ {K V : Type 0} where
  pub turned_tied : (first : ℕ) (log rest : List ℕ) (es : List (K × Stamped V)) (place : ℕ) (w : Stamped V) (next : ℕ) (new : List ℕ) → Tied first log (numbers es) → log ≡ place ∷ rest → place < length es
      → length es < 4294967295 → w.number ≡ first + length log → next ≡ first + 1 → new ≡ rest ++ place ∷ [] → Tied next new (numbers (set_value_at es place w))
  turned_tied first log rest es place w next new tied is within few number next_is new_is =
      let t : Tied first (place ∷ rest) (numbers es) = subst (λ l. Tied first l (numbers es)) is tied in
      let turned : Tied (first + 1) (rest ++ place ∷ []) (set (numbers es) place (first + length (place ∷ rest))) =
      turn_tied first rest (numbers es) place t (omega (arith, length-numbers es)) (omega (arith, length-numbers es)) in
      let ns : numbers (set_value_at es place w) ≡ set (numbers es) place (first + length (place ∷ rest)) =
      numbers-set es place w ∙ ap (set (numbers es) place) (number ∙ ap (λ (l : List ℕ). first + length l) is) in
      subst (λ (n : ℕ). Tied n new (numbers (set_value_at es place w))) (sym next_is)
      (subst (λ l. Tied (first + 1) l (numbers (set_value_at es place w))) (sym new_is)
      (subst (λ l. Tied (first + 1) (rest ++ place ∷ []) l) (sym ns) turned))

  pub dropped_tied : (first : ℕ) (log rest : List ℕ) (es : List (K × Stamped V)) (place next : ℕ) → Tied first log (numbers es) → log ≡ place ∷ rest → length es ≤ place → next ≡ first + 1
      → Tied next rest (numbers es)
  dropped_tied first log rest es place next tied is past next_is =
      subst (λ (n : ℕ). Tied n rest (numbers es)) (sym next_is)
      (without_hole first rest (numbers es) place (subst (λ l. Tied first l (numbers es)) is tied) (omega (arith, length-numbers es)))

-- how far the log was turned round: the first r are still to do
module _ {X : Type 0} (xs all : List X) where
  pub record Turning (log : List ℕ) (r : ℕ) : Type 0 where
    pub left : r ≤ length log
    pub shown : picked xs (drop r log) ++ picked xs (take r log) ≡ all
    pub closed : length (picked xs (drop r log)) ≡ length (drop r log)

  turning_hole : (q : ℕ) (log : List ℕ) (r : ℕ) → length xs ≤ q → Turning (q ∷ log) (suc r) → Turning log r
  turning_hole q log r past t = record {
    left = let le : suc r ≤ length (q ∷ log) = t.left in omega arith;
    shown = turns_hole xs q log r (slice_get_past xs q past) ∙ t.shown;
    closed = t.closed;
  }

  turning_place : (q : ℕ) (log : List ℕ) (r : ℕ) → q < length xs → Turning (q ∷ log) (suc r) → Turning (log ++ q ∷ []) r
  turning_place q log r within t =
      let le : suc r ≤ length (q ∷ log) = t.left in
      let below : r ≤ length log = omega arith in
      let e = at_below xs q within in
      let longer = drop-longer log q r below in
      let seen : picked xs (drop r (log ++ q ∷ [])) ≡ picked xs (drop r log) ++ e.0 ∷ [] =
      ap (picked xs) longer ∙ picked-append xs (drop r log) (q ∷ []) ∙ ap (λ l. picked xs (drop r log) ++ l) (picked_some xs q [] e.0 e.1) in
      let was : length (picked xs (drop r log)) ≡ length (drop r log) = t.closed in
      record {
        left = omega (arith, length-append log (q ∷ []));
        shown = turns_place xs q log r e.0 e.1 below ∙ t.shown;
        closed = omega (arith, ap length seen, ap length longer, length-append (picked xs (drop r log)) (e.0 ∷ []), length-append (drop r log) (q ∷ []));
      }

  turns : (places : ℕ) (log : List ℕ) (r : ℕ) → places ≡ length xs → Turning log (suc r) → Turning (turned places log) r
  turns places [] r same t = absurd (let le : suc r ≤ 0 = t.left in omega arith)
  turns places (q ∷ log) r same t = by (nat_lt q places) refl
    where
      by : (b : Bool) → nat_lt q places ≡ b → Turning (turned places (q ∷ log)) r
      by true holds = subst (λ l. Turning l r) (sym (ap (λ b. if b then log ++ q ∷ [] else log) holds)) (turning_place q log r (let below : q < places = ltb-true q places holds in omega arith) t)
      by false fails = subst (λ l. Turning l r) (sym (ap (λ b. if b then log ++ q ∷ [] else log) fails)) (turning_hole q log r (let past : places ≤ q = ltb-false q places fails in omega arith) t)

  pub turns_on : (places : ℕ) (log new : List ℕ) (r s : ℕ) → places ≡ length xs → new ≡ turned places log → r ≡ suc s → Turning log r → Turning new s
  turns_on places log new r s same is step t = subst (λ l. Turning l s) (sym is) (turns places log s same (subst (λ (k : ℕ). Turning log k) step t))
