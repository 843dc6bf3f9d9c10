-- Each step keeps the rule, and tells what it says.
use Rattle.std.proofs.Common.{◌≡◌, ◌≢◌, ⊎_elim, ℕ, zero, suc, ◌+◌, ◌≤◌, List, [], ◌∷◌, ◌++◌, length, set, Bool, true, false, true≢false, refl, sym, ap, ◌∙◌, subst, arith, length-append, eqb}
use Rattle.std.proofs.lemmas.Bool.Decides.{nat_tests}
use Rattle.std.specs.Prelude.{slice_index, slice_set, ◌==◌, ◌&&◌, nat_le}
use mathlib.Core.Option.{some, none, some-ne-none, some-injective}
use lib.ListN.{get_elem?}
use prog.Atomic.{either}
use Rattle.atomic_table.specs.Table.{Me, step, keeps, Allows, Splits, Joins, opening}
use Rattle.atomic_table.proofs.Lists.{at_set, at_snoc, set_again, exchanged}
use Rattle.lb_desk_tie.specs.declared.view.View.{View}
use Rattle.lb_desk_tie.specs.Receipts.{Each, total, one_if_same, one_if_below, rises, times, times_in, count_in, IsSound, IsBeginningOf}
use Rattle.lb_desk_tie.specs.Rule.{keeper_view, pass_view, spent_view, list_of, sights_in, one_pass_more, in_hand, hand_back, first_pass, counted_view, seeing_view, AreSound, Counts, Sights, Looks, Fits, Kept, next_from}
use Rattle.lb_desk_tie.proofs.Sums.{total-append, total-set, total_of_none, total_alone, Each-append, length-push, one_if_below-next, times-push, sounds_longer, sound_push, early_longer, early_push, append_empty, sounds_stand, sounds_rise, next_from-push, rises_from-push}

off : false ≡ true → ⊥
off e = true≢false (sym e)

exchanged_same : (found old new : ℕ) → found ≡ old → either (eqb found old) new found ≡ new
exchanged_same found old new same = exchanged found old new (λ n. n ≡ new) (λ _. refl) (λ apart. absurd (apart same))

module _ {E : Type 0} where
  fits_set : (seat : ℕ) (history : List E) (passes : ℕ) (views : List (View E)) (by : ℕ) (w : View E)
      → ((j : ℕ) (u : View E) → j ≢ by → get_elem? views j ≡ some u → Fits seat history passes j u) → Fits seat history passes by w
      → (j : ℕ) (u : View E) → get_elem? (set views by w) j ≡ some u → Fits seat history passes j u
  fits_set seat history passes views by w others mine j u at =
      ⊎_elim
      (λ (x : (j ≡ by) × (w ≡ u)). subst (λ (y : ℕ × View E). Fits seat history passes y.0 y.1) (λ i. (sym x.0 i, x.1 i)) mine)
      (λ (x : (j ≢ by) × (get_elem? views j ≡ some u)). others j u x.0 x.1)
      (at_set views by j w u at)

  -- a sum over the lists of all views, where two views become one
  joined_total : (g : List (List (ℕ × E)) → ℕ) → ((a b : List (List (ℕ × E))) → g (a ++ b) ≡ g a + g b) → g [] ≡ 0
      → (views : List (View E)) (id other : ℕ) (v w : View E) → get_elem? views id ≡ some v → get_elem? (set views id (in_hand v w)) other ≡ some w
      → total (λ (u : View E). g u.lists) (set (set views id (in_hand v w)) other spent_view) ≡ total (λ (u : View E). g u.lists) views
  joined_total g adds empty views id other v w at there =
      let one : total (λ (u : View E). g u.lists) (set views id (in_hand v w)) + g v.lists ≡ total (λ (u : View E). g u.lists) views + g (w.lists ++ v.lists) = total-set (λ (u : View E). g u.lists) views id v (in_hand v w) at in
      let two : total (λ (u : View E). g u.lists) (set (set views id (in_hand v w)) other spent_view) + g w.lists ≡ total (λ (u : View E). g u.lists) (set views id (in_hand v w)) + g [] = total-set (λ (u : View E). g u.lists) (set views id (in_hand v w)) other w spent_view there in
      let both : g (w.lists ++ v.lists) ≡ g w.lists + g v.lists = adds w.lists v.lists in
      omega arith

  -- the same, where one view becomes two that have d more together
  cut_total : (f : View E → ℕ) (d : ℕ) (views : List (View E)) (id : ℕ) (v left right : View E) → f left + f right ≡ f v + d → get_elem? views id ≡ some v
      → total f (set views id left ++ right ∷ []) ≡ total f views + d
  cut_total f d views id v left right parts at =
      let one : total f (set views id left) + f v ≡ total f views + f left = total-set f views id v left at in
      omega (arith, total-append f (set views id left) (right ∷ []))

  spent_fits : (seat : ℕ) (history : List E) (passes by : ℕ) → Fits seat history passes by spent_view
  spent_fits seat history passes by = record { keeper = λ k. absurd (off k); sound = tt; early = tt }

  pass_fits : (seat : ℕ) (history : List E) (passes by : ℕ) (list : List (ℕ × E)) (sights : List (List E)) → IsSound history list → Each (IsBeginningOf history) sights
      → Fits seat history passes by (pass_view list sights)
  pass_fits seat history passes by list sights sound early = record { keeper = λ k. absurd (off k); sound = (sound, tt); early = early }

  pub joins : (id : ℕ) (v : View E) (other : ℕ) (w : View E) → v.keeps ≡ true → Joins Kept id v other w (in_hand v w) spent_view
  joins id v other w keeper s kept at apart there =
      let was : get_elem? s.views other ≡ some w =
      ⊎_elim
      (λ (x : (other ≡ id) × (in_hand v w ≡ w)). absurd (apart x.0))
      (λ (x : (other ≢ id) × (get_elem? s.views other ≡ some w)). x.1)
      (at_set s.views id other (in_hand v w) w there) in
      let mine : Fits kept.seat kept.history kept.passes id (in_hand v w) = record {
        keeper = λ _. (kept.fits id v at).keeper keeper;
        sound = Each-append (IsSound kept.history) w.lists v.lists (kept.fits other w was).sound (kept.fits id v at).sound;
        early = Each-append (IsBeginningOf kept.history) w.sights v.sights (kept.fits other w was).early (kept.fits id v at).early;
      } in
      record {
        seat = kept.seat;
        history = kept.history;
        passes = kept.passes;
        words = kept.words;
        given = joined_total (λ lists. length lists) (λ a b. length-append a b) refl s.views id other v w at there ∙ kept.given;
        long = joined_total count_in (λ a b. total-append (λ (list : List (ℕ × E)). length list) a b) refl s.views id other v w at there ∙ kept.long;
        once = λ x. joined_total (times_in x) (λ a b. total-append (times x) a b) refl s.views id other v w at there ∙ kept.once x;
        fits = fits_set kept.seat kept.history kept.passes (set s.views id (in_hand v w)) other spent_view
            (λ j u _ e. fits_set kept.seat kept.history kept.passes s.views id (in_hand v w) (λ i t _ e'. kept.fits i t e') mine j u e)
            (spent_fits kept.seat kept.history kept.passes other);
      }

  pub enters : (id : ℕ) (v : View E) → v.keeps ≡ true → Splits Kept id v (one_pass_more v) (pass_view [] [])
  enters id v keeper s kept at =
      let was = kept.fits id v at in
      let mine = was.keeper keeper in
      let f : View E → ℕ = λ (u : View E). length u.lists in
      record {
        seat = kept.seat;
        history = kept.history;
        passes = kept.passes + 1;
        words = kept.words;
        given = cut_total (λ (u : View E). length u.lists) 1 s.views id v (one_pass_more v) (pass_view [] []) refl at ∙ ap (λ (n : ℕ). n + 1) kept.given;
        long = omega (arith, cut_total (λ (u : View E). count_in u.lists) 0 s.views id v (one_pass_more v) (pass_view [] []) refl at, kept.long);
        once = λ x. omega (arith, cut_total (λ (u : View E). times_in x u.lists) 0 s.views id v (one_pass_more v) (pass_view [] []) refl at, kept.once x);
        fits = λ j u e. ⊎_elim
            (λ (x : get_elem? (set s.views id (one_pass_more v)) j ≡ some u).
            fits_set kept.seat kept.history (kept.passes + 1) s.views id (one_pass_more v)
            (λ i t apart e'. record { keeper = λ k. absurd (apart (((kept.fits i t e').keeper k).0 ∙ sym mine.0)); sound = (kept.fits i t e').sound; early = (kept.fits i t e').early })
            (record { keeper = λ _. (mine.0, mine.1, ap (λ (n : ℕ). n + 1) mine.2); sound = was.sound; early = was.early }) j u x)
            (λ (x : pass_view [] [] ≡ u). subst (Fits kept.seat kept.history (kept.passes + 1) j) x (pass_fits kept.seat kept.history (kept.passes + 1) j [] [] (tt, refl) tt))
            (at_snoc (set s.views id (one_pass_more v)) (pass_view [] []) u j e);
      }

  cuts : (id : ℕ) (history : List E) (passes : ℕ) (list : List (ℕ × E)) (lists : List (List (ℕ × E))) (sights : List (List E))
      → Splits Kept id (keeper_view history passes (list ∷ lists) sights) (keeper_view history passes lists []) (pass_view list sights)
  cuts id history passes list lists sights s kept at =
      let v : View E = keeper_view history passes (list ∷ lists) sights in
      let left : View E = keeper_view history passes lists [] in
      let was = kept.fits id v at in
      record {
        seat = kept.seat;
        history = kept.history;
        passes = kept.passes;
        words = kept.words;
        given = omega (arith, cut_total (λ (u : View E). length u.lists) 0 s.views id v left (pass_view list sights) (omega arith) at, kept.given);
        long = omega (arith, cut_total (λ (u : View E). count_in u.lists) 0 s.views id v left (pass_view list sights) (omega arith) at, kept.long);
        once = λ x. omega (arith, cut_total (λ (u : View E). times_in x u.lists) 0 s.views id v left (pass_view list sights) (omega arith) at, kept.once x);
        fits = λ j u e. ⊎_elim
            (λ (x : get_elem? (set s.views id left) j ≡ some u).
            fits_set kept.seat kept.history kept.passes s.views id left (λ i t _ e'. kept.fits i t e') (record { keeper = λ _. was.keeper refl; sound = was.sound.1; early = tt }) j u x)
            (λ (x : pass_view list sights ≡ u). subst (Fits kept.seat kept.history kept.passes j) x (pass_fits kept.seat kept.history kept.passes j list sights was.sound.0 was.early))
            (at_snoc (set s.views id left) (pass_view list sights) u j e);
      }

  -- lists that are sound in the history of the rule are so in the keeper's, which is the same
  sound_here : (kept history : List E) (lists : List (List (ℕ × E))) → history ≡ kept → Each (IsSound kept) lists → Each (IsSound history) lists
  sound_here kept history lists is sound = subst (λ (l : List E). Each (IsSound l) lists) (sym is) sound

  -- and so of beginnings
  early_here : (kept history : List E) (sights : List (List E)) → history ≡ kept → Each (IsBeginningOf kept) sights → Each (IsBeginningOf history) sights
  early_here kept history sights is early = subst (λ (l : List E). Each (IsBeginningOf l) sights) (sym is) early

  counts : (slots id : ℕ) (history : List E) (passes : ℕ) (list : List (ℕ × E)) (lists : List (List (ℕ × E))) (sights : List (List E)) (number : ℕ) (entry : E) → number ≡ length history
      → Allows Kept slots id (keeper_view history passes (list ∷ lists) sights, []) 0 (λ n. either (n == number) (number + 1) n) (Counts (step slots 0 number (number + 1) (some entry)) (keeper_view history passes (list ∷ lists) sights, []))
  counts slots id history passes list lists sights number entry is s kept homes at small =
      let v : View E = keeper_view history passes (list ∷ lists) sights in
      let was = kept.fits id v at in
      let mine = was.keeper refl in
      let found : ℕ = slice_index s.words 0 in
      let long_as : found ≡ length kept.history = ap (λ (ws : List ℕ). slice_index ws 0) kept.words in
      let same_length : length history ≡ length kept.history = ap (λ (l : List E). length l) mine.1 in
      let here : found ≡ number = omega arith in
      let now : List E = kept.history ++ entry ∷ [] in
      let pushed : length (kept.history ++ entry ∷ []) ≡ length kept.history + 1 = length-push kept.history entry in
      let w : View E = counted_view (some entry) found v in
      let put : either (eqb found number) (number + 1) found ≡ length (kept.history ++ entry ∷ []) = exchanged_same found number (number + 1) here ∙ omega arith in (
        w,
        keeps,
        tt,
        record {
          seat = kept.seat;
          history = kept.history ++ entry ∷ [];
          passes = kept.passes;
          words = ap (λ (ws : List ℕ). slice_set ws 0 (either (eqb found number) (number + 1) found)) kept.words ∙ ap (λ (n : ℕ). n ∷ []) put;
          given = omega (arith, total-set (λ (u : View E). length u.lists) s.views id v w at, kept.given);
          long = omega (arith, total-set (λ (u : View E). count_in u.lists) s.views id v w at, kept.long, length-push list (found, entry), pushed);
          once = λ x. omega (
            arith,
            total-set (λ (u : View E). times_in x u.lists) s.views id v w at,
            kept.once x,
            times-push x list (found, entry),
            one_if_below-next x (length kept.history),
            ap (λ (n : ℕ). one_if_same n x) long_as,
            ap (λ (n : ℕ). one_if_below x n) pushed,
          );
          fits = fits_set kept.seat (kept.history ++ entry ∷ []) kept.passes s.views id w
              (λ i t apart e. record { keeper = λ k. absurd (apart (((kept.fits i t e).keeper k).0 ∙ sym mine.0)); sound = sounds_longer kept.history (entry ∷ []) t.lists (kept.fits i t e).sound; early = early_longer kept.history (entry ∷ []) t.sights (kept.fits i t e).early })
              (record {
                keeper = λ _. (mine.0, ap (λ (l : List E). l ++ entry ∷ []) mine.1, mine.2);
                sound = (sound_push kept.history entry list found long_as was.sound.0, sounds_longer kept.history (entry ∷ []) lists was.sound.1);
                early = early_longer kept.history (entry ∷ []) sights was.early;
              });
        },
        (here, refl, sound_here kept.history history (list ∷ lists) mine.1 was.sound),
      )

  sees : (slots id : ℕ) (history : List E) (passes : ℕ) (lists : List (List (ℕ × E))) (sights : List (List E))
      → Allows Kept slots id (keeper_view history passes lists sights, []) 0 (λ n. n) (Sights (step slots 0 0 0 none) (keeper_view history passes lists sights, []))
  sees slots id history passes lists sights s kept homes at small =
      let v : View E = keeper_view history passes lists sights in
      let was = kept.fits id v at in
      let mine = was.keeper refl in
      let w : View E = seeing_view v in (
        w,
        keeps,
        tt,
        record {
          seat = kept.seat;
          history = kept.history;
          passes = kept.passes;
          words = ap (λ (ws : List ℕ). slice_set ws 0 (slice_index ws 0)) kept.words;
          given = omega (arith, total-set (λ (u : View E). length u.lists) s.views id v w at, kept.given);
          long = omega (arith, total-set (λ (u : View E). count_in u.lists) s.views id v w at, kept.long);
          once = λ x. omega (arith, total-set (λ (u : View E). times_in x u.lists) s.views id v w at, kept.once x);
          fits = fits_set kept.seat kept.history kept.passes s.views id w (λ i t apart e. kept.fits i t e)
              (record { keeper = λ _. mine; sound = was.sound; early = early_push kept.history sights history mine.1 was.early });
        },
        (refl, sound_here kept.history history lists mine.1 was.sound),
      )

  looks : (slots id : ℕ) (history : List E) (passes : ℕ) (lists : List (List (ℕ × E))) (sights : List (List E))
      → Allows Kept slots id (keeper_view history passes lists sights, []) 0 (λ n. n) (Looks (step slots 0 0 0 none) (keeper_view history passes lists sights, []))
  looks slots id history passes lists sights s kept homes at small =
      let v : View E = keeper_view history passes lists sights in
      let was = kept.fits id v at in
      let mine = was.keeper refl in
      let same : set s.views id v ≡ s.views = set_again s.views id v at in
      let sound : Each (IsSound history) lists = sound_here kept.history history lists mine.1 was.sound in (
        v,
        keeps,
        tt,
        record {
          seat = kept.seat;
          history = kept.history;
          passes = kept.passes;
          words = ap (λ (ws : List ℕ). slice_set ws 0 (slice_index ws 0)) kept.words;
          given = ap (λ vs. total (λ (u : View E). length u.lists) vs) same ∙ kept.given;
          long = ap (λ vs. total (λ (u : View E). count_in u.lists) vs) same ∙ kept.long;
          once = λ x. ap (λ vs. total (λ (u : View E). times_in x u.lists) vs) same ∙ kept.once x;
          fits = λ j u e. kept.fits j u (subst (λ (vs : List (View E)). get_elem? vs j ≡ some u) same e);
        },
        (
          refl,
          early_here kept.history history sights mine.1 was.early,
          λ all.
              let given = kept.given in
              let as_many : passes ≡ kept.passes = mine.2 in
              let most : total (λ (u : View E). length u.lists) s.views ≤ length lists = omega arith in
              let alone : (f : View E → ℕ) → ((u : View E) → length u.lists ≡ 0 → f u ≡ 0) → total f s.views ≡ f v = λ f zeros. total_alone f (λ (u : View E). length u.lists) zeros s.views id v at most in (
                sym (alone (λ (u : View E). length u.lists) (λ u z. z)) ∙ kept.given ∙ sym mine.2,
                record {
                  stand = sounds_stand history lists sound;
                  rise = sounds_rise history lists sound;
                  once = λ x. sym (alone (λ (u : View E). times_in x u.lists) (λ u z. total_of_none (times x) u.lists z)) ∙ kept.once x ∙ ap (λ (l : List E). one_if_below x (length l)) (sym mine.1);
                  long = sym (alone (λ (u : View E). count_in u.lists) (λ u z. total_of_none (λ (list : List (ℕ × E)). length list) u.lists z)) ∙ kept.long ∙ ap (λ (l : List E). length l) (sym mine.1);
                },
              ),
        ),
      )

  pub opens : Kept (opening (0 ∷ []) [] (keeper_view {E = E} [] 0 [] []))
  opens = record { seat = 0; history = []; passes = 0; words = refl; given = refl; long = refl; once = λ x. none_below x; fits = one }
    where
      none_below : (x : ℕ) → 0 ≡ one_if_below x 0
      none_below x = grind (arith, nat_tests)

      one : (by : ℕ) (v : View E) → get_elem? (keeper_view [] 0 [] [] ∷ []) by ≡ some v → Fits 0 [] 0 by v
      one zero v e = subst (Fits 0 [] 0 0) (some-injective _ _ e) (record { keeper = λ _. (refl, refl, refl); sound = tt; early = tt })
      one (suc by) v e = absurd (some-ne-none v (sym e))

  -- the steps, at a view that is known
  pub cuts_as : (id : ℕ) (v : View E) (history : List E) (passes : ℕ) (list : List (ℕ × E)) (lists : List (List (ℕ × E))) (sights : List (List E)) → v ≡ keeper_view history passes (list ∷ lists) sights
      → Splits Kept id v (hand_back v) (first_pass v)
  cuts_as id v history passes list lists sights is = subst (λ (u : View E). Splits Kept id u (hand_back u) (first_pass u)) (sym is) (cuts id history passes list lists sights)

  pub counts_as : (slots id : ℕ) (me : Me E (View E)) (history : List E) (passes : ℕ) (list : List (ℕ × E)) (lists : List (List (ℕ × E))) (sights : List (List E)) (number : ℕ) (entry : E)
      → me ≡ (keeper_view history passes (list ∷ lists) sights, []) → number ≡ length history
      → Allows Kept slots id me 0 (λ n. either (n == number) (number + 1) n) (Counts (step slots 0 number (number + 1) (some entry)) me)
  counts_as slots id me history passes list lists sights number entry is length_is =
      subst (λ (m : Me E (View E)). Allows Kept slots id m 0 (λ n. either (n == number) (number + 1) n) (Counts (step slots 0 number (number + 1) (some entry)) m)) (sym is)
      (counts slots id history passes list lists sights number entry length_is)

  pub sees_as : (slots id : ℕ) (me : Me E (View E)) (history : List E) (passes : ℕ) (lists : List (List (ℕ × E))) (sights : List (List E)) → me ≡ (keeper_view history passes lists sights, [])
      → Allows Kept slots id me 0 (λ n. n) (Sights (step slots 0 0 0 none) me)
  sees_as slots id me history passes lists sights is = subst (λ (m : Me E (View E)). Allows Kept slots id m 0 (λ n. n) (Sights (step slots 0 0 0 none) m)) (sym is) (sees slots id history passes lists sights)

  pub looks_as : (slots id : ℕ) (me : Me E (View E)) (history : List E) (passes : ℕ) (lists : List (List (ℕ × E))) (sights : List (List E)) → me ≡ (keeper_view history passes lists sights, [])
      → Allows Kept slots id me 0 (λ n. n) (Looks (step slots 0 0 0 none) me)
  looks_as slots id me history passes lists sights is = subst (λ (m : Me E (View E)). Allows Kept slots id m 0 (λ n. n) (Looks (step slots 0 0 0 none) m)) (sym is) (looks slots id history passes lists sights)

  -- what a count tells, at a view that is known
  pub counted_is : (slots : ℕ) (me after : Me E (View E)) (history : List E) (passes : ℕ) (list : List (ℕ × E)) (lists : List (List (ℕ × E))) (sights : List (List E)) (number found : ℕ) (entry : E)
      → me ≡ (keeper_view history passes (list ∷ lists) sights, []) → Counts (step slots 0 number (number + 1) (some entry)) me found after
      → after ≡ (keeper_view (history ++ entry ∷ []) passes ((list ++ (number, entry) ∷ []) ∷ lists) sights, [])
  counted_is slots me after history passes list lists sights number found entry is told =
      told.1 ∙ (λ i. (counted_view (some entry) (told.0 i) (is i).0, (is i).1))

  -- what a sight leaves, at a view that is known
  pub seen_is : (me after : Me E (View E)) (history : List E) (passes : ℕ) (lists : List (List (ℕ × E))) (sights : List (List E))
      → me ≡ (keeper_view history passes lists sights, []) → after ≡ (seeing_view me.0, me.1)
      → after ≡ (keeper_view history passes lists (sights ++ history ∷ []), [])
  seen_is me after history passes lists sights is saw = saw ∙ (λ i. (seeing_view (is i).0, (is i).1))

  -- that the one list in hand was sound, which a count says, and a sight
  pub sound_is : (me : Me E (View E)) (history : List E) (passes : ℕ) (list : List (ℕ × E)) (sights : List (List E)) → me ≡ (keeper_view history passes (list ∷ []) sights, [])
      → AreSound me.0 → IsSound history list
  sound_is me history passes list sights is sound = (subst (λ (m : Me E (View E)). AreSound m.0) is sound).0

  -- the view of the badge of a pass
  pub pass_is : (views : List (View E)) (w : View E) → views ≡ w ∷ [] → views ≡ pass_view (list_of views) (sights_in views) ∷ [] → w ≡ pass_view (list_of views) (sights_in views)
  pass_is views w is pass = first_is w (pass_view (list_of views) (sights_in views)) (sym is ∙ pass)
    where
      first_is : (a b : View E) → a ∷ [] ≡ b ∷ [] → a ≡ b
      first_is a b e = cc

  -- what taking a pass into the hand gives
  pub handed_is : (me : Me E (View E)) (w : View E) (history : List E) (passes : ℕ) (lists : List (List (ℕ × E))) (sights : List (List E)) (list : List (ℕ × E)) (seen : List (List E))
      → me ≡ (keeper_view history passes lists sights, []) → w ≡ pass_view list seen
      → ◌≡◌ {A = Me E (View E)} (in_hand me.0 w, me.1) (keeper_view history passes (list ∷ lists) (seen ++ sights), [])
  handed_is me w history passes lists sights list seen is pass = λ i. (in_hand (is i).0 (pass i), (is i).1)

  -- the same, into an empty hand
  pub handed_alone : (me : Me E (View E)) (w : View E) (history : List E) (passes : ℕ) (list : List (ℕ × E)) (seen : List (List E))
      → me ≡ (keeper_view history passes [] [], []) → w ≡ pass_view list seen
      → ◌≡◌ {A = Me E (View E)} (in_hand me.0 w, me.1) (keeper_view history passes (list ∷ []) seen, [])
  handed_alone me w history passes list seen is pass =
      handed_is me w history passes [] [] list seen is pass ∙ (λ i. (keeper_view history passes (list ∷ []) (append_empty seen i), []))

  -- the pass with a receipt more still knows its next number, and whether its numbers rise
  pub told_is : (views : List (View E)) (list : List (ℕ × E)) (sights : List (List E)) (number : ℕ) (entry : E) (next : ℕ) (rising : Bool)
      → views ≡ pass_view (list ++ (number, entry) ∷ []) sights ∷ [] → next ≡ next_from 0 list → rising ≡ rises list
      → (views ≡ pass_view (list_of views) (sights_in views) ∷ []) × (number + 1 ≡ next_from 0 (list_of views)) × (rising && nat_le next number ≡ rises (list_of views))
  told_is views list sights number entry next rising told next_is rising_is =
      let same : list_of views ≡ list ++ (number, entry) ∷ [] = ap list_of told in (
        told ∙ (λ i. pass_view (sym same i) (sym (ap sights_in told) i) ∷ []),
        sym (next_from-push 0 list (number, entry)) ∙ ap (next_from 0) (sym same),
        (λ i. rising_is i && nat_le (next_is i) number) ∙ sym (rises_from-push 0 list (number, entry)) ∙ ap rises (sym same),
      )
