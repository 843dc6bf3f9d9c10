-- The passes come back, the last one first.
use Rattle.std.proofs.Common.{◌≡◌, ℕ, suc, List, [], ◌∷◌, ◌++◌, length, refl, sym, ap, ◌∙◌, subst, append_assoc, arith}
use Rattle.atomic_table.specs.Table.{Me}
use Rattle.lb_desk_tie.specs.declared.view.View.{View}
use Rattle.lb_desk_tie.specs.Receipts.{PassView, Each, IsBeginningOf, receipts_of, sights_of, AreOf, Shares}
use Rattle.lb_desk_tie.specs.Rule.{keeper_view}

module _ {A : Type 0} where
  Each-front : (P : A → Type 0) (xs ys : List A) → Each P (xs ++ ys) → Each P xs
  Each-front P [] ys all = tt
  Each-front P (x ∷ xs) ys all = (all.0, Each-front P xs ys all.1)

  Each-back : (P : A → Type 0) (xs ys : List A) → Each P (xs ++ ys) → Each P ys
  Each-back P [] ys all = all
  Each-back P (x ∷ xs) ys all = Each-back P xs ys all.1

module _ {E : Type 0} where
  receipts_of-append : (xs ys : List (PassView E)) → receipts_of (xs ++ ys) ≡ receipts_of xs ++ receipts_of ys
  receipts_of-append [] ys = refl
  receipts_of-append (x ∷ xs) ys = ap (λ l. x.receipts ∷ l) (receipts_of-append xs ys)

  pub length-receipts_of : (xs : List (PassView E)) → length (receipts_of xs) ≡ length xs
  length-receipts_of [] = refl
  length-receipts_of (x ∷ xs) = ap suc (length-receipts_of xs)

  -- the last pass is of the keeper, and so are those that are left
  pub last_is_own : (number : ℕ) (all left : List (PassView E)) (pass : PassView E) → all ≡ left ++ pass ∷ [] → AreOf number all → pass.keeper ≡ number
  last_is_own number all left pass is own =
      (Each-back (λ (p : PassView E). p.keeper ≡ number) left (pass ∷ []) (subst (λ (l : List (PassView E)). AreOf number l) is own)).0

  pub rest_is_own : (number : ℕ) (all left : List (PassView E)) (pass : PassView E) → all ≡ left ++ pass ∷ [] → AreOf number all → AreOf number left
  rest_is_own number all left pass is own = Each-front (λ (p : PassView E). p.keeper ≡ number) left (pass ∷ []) (subst (λ (l : List (PassView E)). AreOf number l) is own)

  -- the lists of the passes that are left, and those in hand, are those of all passes
  pub popped : (all left : List (PassView E)) (pass : PassView E) (lists now whole : List (List (ℕ × E)))
      → all ≡ left ++ pass ∷ [] → now ≡ pass.receipts ∷ lists → receipts_of all ++ lists ≡ whole → receipts_of left ++ now ≡ whole
  popped all left pass lists now whole is took before =
      ap (λ l. receipts_of left ++ l) took ∙ sym (append_assoc (receipts_of left) (pass.receipts ∷ []) lists) ∙ ap (λ l. l ++ lists) (sym (receipts_of-append left (pass ∷ [])) ∙ ap receipts_of (sym is)) ∙ before

  -- the keeper's view with one list more, where its history is known
  pub still_keeper : (me now : Me E (View E)) (history : List E) (passes : ℕ) (list : List (ℕ × E)) (sights : List (List E)) → me ≡ (keeper_view history passes me.0.lists me.0.sights, [])
      → now ≡ (keeper_view me.0.history me.0.passes (list ∷ me.0.lists) (sights ++ me.0.sights), []) → now ≡ (keeper_view history passes now.0.lists now.0.sights, [])
  still_keeper me now history passes list sights is took =
      let lists = sym (ap (λ m. m.0.lists) took) in
      let seen = sym (ap (λ m. m.0.sights) took) in
      took ∙ (λ i. (keeper_view (is i).0.history (is i).0.passes (lists i) (seen i), []))

  -- the keeper's view says what it says of itself
  pub knows_itself : (me : Me E (View E)) (history : List E) (passes : ℕ) → me ≡ (keeper_view history passes me.0.lists me.0.sights, [])
      → me ≡ (keeper_view me.0.history me.0.passes me.0.lists me.0.sights, [])
  knows_itself me history passes is =
      let back = sym is in
      is ∙ (λ i. (keeper_view (back i).0.history (back i).0.passes me.0.lists me.0.sights, []))

  sights_of-append : (xs ys : List (PassView E)) → sights_of (xs ++ ys) ≡ sights_of xs ++ sights_of ys
  sights_of-append [] ys = refl
  sights_of-append (x ∷ xs) ys = ap (λ l. x.sights ++ l) (sights_of-append xs ys) ∙ sym (append_assoc x.sights (sights_of xs) (sights_of ys))

  append_empty : (xs : List (List E)) → xs ++ [] ≡ xs
  append_empty [] = refl
  append_empty (x ∷ xs) = ap (λ l. x ∷ l) (append_empty xs)

  -- the same of the sights
  pub popped_sights : (all left : List (PassView E)) (pass : PassView E) (sights now whole : List (List E))
      → all ≡ left ++ pass ∷ [] → now ≡ pass.sights ++ sights → sights_of all ++ sights ≡ whole → sights_of left ++ now ≡ whole
  popped_sights all left pass sights now whole is took before =
      ap (λ l. sights_of left ++ l) took ∙ sym (append_assoc (sights_of left) pass.sights sights)
      ∙ ap (λ l. l ++ sights) (sym (sights_of-append left (pass ∷ []) ∙ ap (λ l. sights_of left ++ l) (append_empty pass.sights)) ∙ ap sights_of (sym is)) ∙ before

  pub all_seen : (left : List (PassView E)) (sights whole : List (List E)) → length left ≡ 0 → sights_of left ++ sights ≡ whole → sights ≡ whole
  all_seen [] sights whole none is = is
  all_seen (x ∷ xs) sights whole none is = absurd (omega arith)

  pub early_as : (history now : List E) (sights whole : List (List E)) → history ≡ now → sights ≡ whole → Each (IsBeginningOf history) sights → Each (IsBeginningOf now) whole
  early_as history now sights whole history_is sights_is early =
      subst (λ (x : List E × List (List E)). Each (IsBeginningOf x.0) x.1) (λ i. (history_is i, sights_is i)) early

  -- with no pass left, all lists are in hand
  pub all_in_hand : (left : List (PassView E)) (lists whole : List (List (ℕ × E))) → length left ≡ 0 → receipts_of left ++ lists ≡ whole → lists ≡ whole
  all_in_hand [] lists whole none is = is
  all_in_hand (x ∷ xs) lists whole none is = absurd (omega arith)

  pub as_many : (lists : List (List (ℕ × E))) (passes : List (PassView E)) (count : ℕ) → lists ≡ receipts_of passes → length passes ≡ count → length lists ≡ count
  as_many lists passes count is counted = ap (λ l. length l) is ∙ length-receipts_of passes ∙ counted

  pub share_as : (history now : List E) (lists whole : List (List (ℕ × E))) → history ≡ now → lists ≡ whole → Shares history lists → Shares now whole
  share_as history now lists whole history_is lists_is share =
      subst (λ (x : List E × List (List (ℕ × E))). Shares x.0 x.1) (λ i. (history_is i, lists_is i)) share
