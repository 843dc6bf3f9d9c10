-- What the log picks of the pairs.
use Rattle.std.proofs.Common.{◌≡◌, ◌≢◌, ℕ, zero, suc, ◌+◌, ◌<◌, ◌≤◌, Bool, true, false, cond, List, [], ◌∷◌, ◌++◌, length, take, drop, set, Option, None, Some, slice_get, option_map, option_to_list, refl, sym, ap, ap₂, ◌∙◌, subst, append_assoc, append-nil, arith}
use Rattle.std.proofs.lemmas.Option.{none-some, same_Some, slice_get_within, slice_get_past}
use Rattle.std.specs.Map.{lookup, lookup_key, remove_entry}
use Rattle.pin_recent.specs.Sound.{picked, OnlyAt, Nowhere}
use Rattle.pin_recent.specs.Recent.{touched}

pub drop-longer : (log : List ℕ) (q r : ℕ) → r ≤ length log → drop r (log ++ q ∷ []) ≡ drop r log ++ q ∷ []
drop-longer log q zero le = refl
drop-longer [] q (suc r) le = absurd (omega arith)
drop-longer (p ∷ log) q (suc r) le = drop-longer log q r (omega arith)

pub take-longer : (log : List ℕ) (q r : ℕ) → r ≤ length log → take r (log ++ q ∷ []) ≡ take r log
take-longer log q zero le = refl
take-longer [] q (suc r) le = absurd (omega arith)
take-longer (p ∷ log) q (suc r) le = ap (λ l. p ∷ l) (take-longer log q r (omega arith))

module _ {X : Type 0} where
  pub picked-append : (xs : List X) (ps qs : List ℕ) → picked xs (ps ++ qs) ≡ picked xs ps ++ picked xs qs
  picked-append xs [] qs = refl
  picked-append xs (p ∷ ps) qs =
      ap (λ l. option_to_list (slice_get xs p) ++ l) (picked-append xs ps qs) ∙ sym (append_assoc (option_to_list (slice_get xs p)) (picked xs ps) (picked xs qs))

  pub picked_none : (xs : List X) (p : ℕ) (ps : List ℕ) → slice_get xs p ≡ None → picked xs (p ∷ ps) ≡ picked xs ps
  picked_none xs p ps none = ap (λ o. option_to_list o ++ picked xs ps) none

  pub picked_some : (xs : List X) (p : ℕ) (ps : List ℕ) (x : X) → slice_get xs p ≡ Some x → picked xs (p ∷ ps) ≡ x ∷ picked xs ps
  picked_some xs p ps x some = ap (λ o. option_to_list o ++ picked xs ps) some

  -- lists that show the same at each of their places
  pub same_picked : (xs ys : List X) (ps qs : List ℕ) → length ps ≡ length qs → ((i p q : ℕ) → slice_get ps i ≡ Some p → slice_get qs i ≡ Some q → slice_get xs p ≡ slice_get ys q) → picked xs ps ≡ picked ys qs
  same_picked xs ys [] [] len each = refl
  same_picked xs ys [] (q ∷ qs) len each = absurd (omega arith)
  same_picked xs ys (p ∷ ps) [] len each = absurd (omega arith)
  same_picked xs ys (p ∷ ps) (q ∷ qs) len each =
      ap₂ (λ o l. option_to_list o ++ l) (each 0 p q refl refl) (same_picked xs ys ps qs (omega arith) (λ i. each (suc i)))

  -- by cases of what stands at a place
  pub there_or_not : {P : Type 0} (o : Option X) → (o ≡ None → P) → ((x : X) → o ≡ Some x → P) → P
  there_or_not None none some = none refl
  there_or_not (Some x) none some = some x refl

  pub length-picked_le : (xs : List X) (ps : List ℕ) → length (picked xs ps) ≤ length ps
  length-picked_le xs [] = omega arith
  length-picked_le xs (p ∷ ps) =
      let rest : length (picked xs ps) ≤ length ps = length-picked_le xs ps in
      there_or_not (slice_get xs p)
      (λ none. omega (arith, ap length (picked_none xs p ps none)))
      (λ x some. omega (arith, ap length (picked_some xs p ps x some)))

  -- where each place has an item, the first has
  pub front_there : (xs : List X) (ps : List ℕ) (p : ℕ) → length (picked xs ps) ≡ length ps → slice_get ps 0 ≡ Some p → p < length xs
  front_there xs [] p len at = absurd (none-some p at)
  front_there xs (q ∷ ps) p len at =
      let same : q ≡ p = same_Some q p at in
      let rest : length (picked xs ps) ≤ length ps = length-picked_le xs ps in
      there_or_not (slice_get xs q)
      (λ none. absurd (omega (arith, ap length (picked_none xs q ps none))))
      (λ x some. let within : q < length xs = slice_get_within xs q x some in omega arith)

  -- one hole more, one item less
  pub length-hole : (xs : List X) (log : List ℕ) (i place hole : ℕ) (x : X) → slice_get log i ≡ Some place → slice_get xs place ≡ Some x → slice_get xs hole ≡ None
      → length (picked xs (set log i hole)) + 1 ≡ length (picked xs log)
  length-hole xs [] i place hole x at has none = absurd (none-some place at)
  length-hole xs (q ∷ log) zero place hole x at has none =
      let same : q ≡ place = same_Some q place at in
      omega (arith, ap length (picked_none xs hole log none), ap length (picked_some xs q log x (subst (λ r. slice_get xs r ≡ Some x) (sym same) has)))
  length-hole xs (q ∷ log) (suc i) place hole x at has none =
      let rest : length (picked xs (set log i hole)) + 1 ≡ length (picked xs log) = length-hole xs log i place hole x at has none in
      there_or_not (slice_get xs q)
      (λ nothing. omega (arith, ap length (picked_none xs q log nothing), ap length (picked_none xs q (set log i hole) nothing)))
      (λ f some. omega (arith, ap length (picked_some xs q log f some), ap length (picked_some xs q (set log i hole) f some)))

  -- one turn: what is done stands behind the first r, which are still to do
  pub turns_hole : (xs : List X) (q : ℕ) (log : List ℕ) (r : ℕ) → slice_get xs q ≡ None
      → picked xs (drop r log) ++ picked xs (take r log) ≡ picked xs (drop (suc r) (q ∷ log)) ++ picked xs (take (suc r) (q ∷ log))
  turns_hole xs q log r none = ap (λ l. picked xs (drop r log) ++ l) (sym (picked_none xs q (take r log) none))

  pub turns_place : (xs : List X) (q : ℕ) (log : List ℕ) (r : ℕ) (x : X) → slice_get xs q ≡ Some x → r ≤ length log
      → picked xs (drop r (log ++ q ∷ [])) ++ picked xs (take r (log ++ q ∷ [])) ≡ picked xs (drop (suc r) (q ∷ log)) ++ picked xs (take (suc r) (q ∷ log))
  turns_place xs q log r x some le =
      ap₂ (λ d t. picked xs d ++ picked xs t) (drop-longer log q r le) (take-longer log q r le)
      ∙ ap (λ l. l ++ picked xs (take r log)) (picked-append xs (drop r log) (q ∷ []))
      ∙ append_assoc (picked xs (drop r log)) (picked xs (q ∷ [])) (picked xs (take r log))
      ∙ ap (λ l. picked xs (drop r log) ++ l) (sym (picked-append xs (q ∷ []) (take r log)))

module _ {K V : Type 0} (test : K → Bool) where
  abbrev Fail : List (K × V) → Type 0
  Fail [] = Unit {0}
  Fail (p ∷ ps) = (test p.0 ≡ false) × Fail ps

  lookup-split : (front rest : List (K × V)) (p : K × V) → Fail front → test p.0 ≡ true → lookup test (front ++ p ∷ rest) ≡ Some p.1
  lookup-split [] rest p fail pass = ap (λ b. cond b (Some p.1) (lookup test rest)) pass
  lookup-split (f ∷ front) rest p fail pass =
      ap (λ b. cond b (Some f.1) (lookup test (front ++ p ∷ rest))) fail.0 ∙ lookup-split front rest p fail.1 pass

  lookup_key-split : (front rest : List (K × V)) (p : K × V) → Fail front → test p.0 ≡ true → lookup_key test (front ++ p ∷ rest) ≡ Some p.0
  lookup_key-split [] rest p fail pass = ap (λ b. cond b (Some p.0) (lookup_key test rest)) pass
  lookup_key-split (f ∷ front) rest p fail pass =
      ap (λ b. cond b (Some f.0) (lookup_key test (front ++ p ∷ rest))) fail.0 ∙ lookup_key-split front rest p fail.1 pass

  remove_entry-split : (front rest : List (K × V)) (p : K × V) → Fail front → test p.0 ≡ true → remove_entry test (front ++ p ∷ rest) ≡ front ++ rest
  remove_entry-split [] rest p fail pass = ap (λ b. cond b rest (p ∷ remove_entry test rest)) pass
  remove_entry-split (f ∷ front) rest p fail pass =
      ap (λ b. cond b (front ++ p ∷ rest) (f ∷ remove_entry test (front ++ p ∷ rest))) fail.0 ∙ ap (λ l. f ∷ l) (remove_entry-split front rest p fail.1 pass)

  -- the one pair whose key passes, with what stands before and behind it
  record Split (all without : List (K × V)) (p : K × V) : Type 0 where
    front : List (K × V)
    rest : List (K × V)
    with_it : all ≡ front ++ p ∷ rest
    without_it : without ≡ front ++ rest
    fail : Fail front

  split : (xs : List (K × V)) (log : List ℕ) (i place hole : ℕ) (p : K × V) → slice_get log i ≡ Some place → slice_get xs place ≡ Some p → slice_get xs hole ≡ None
      → ((j q : ℕ) (f : K × V) → slice_get log j ≡ Some q → j ≢ i → slice_get xs q ≡ Some f → test f.0 ≡ false)
      → Split (picked xs log) (picked xs (set log i hole)) p
  split xs [] i place hole p at has none others = absurd (none-some place at)
  split xs (q ∷ log) zero place hole p at has none others =
      let same : q ≡ place = same_Some q place at in
      record {
        front = [];
        rest = picked xs log;
        with_it = picked_some xs q log p (subst (λ r. slice_get xs r ≡ Some p) (sym same) has);
        without_it = picked_none xs hole log none;
        fail = tt;
      }
  split xs (q ∷ log) (suc i) place hole p at has none others =
      let s : Split (picked xs log) (picked xs (set log i hole)) p = split xs log i place hole p at has none (λ j r f at_j apart. others (suc j) r f at_j (λ e. apart (omega arith))) in
      there_or_not (slice_get xs q)
      (λ nothing. record {
        front = s.front;
        rest = s.rest;
        with_it = picked_none xs q log nothing ∙ s.with_it;
        without_it = picked_none xs q (set log i hole) nothing ∙ s.without_it;
        fail = s.fail;
      })
      (λ f some. record {
        front = f ∷ s.front;
        rest = s.rest;
        with_it = picked_some xs q log f some ∙ ap (λ l. f ∷ l) s.with_it;
        without_it = picked_some xs q (set log i hole) f some ∙ ap (λ l. f ∷ l) s.without_it;
        fail = (others 0 q f refl (λ e. omega arith) some, s.fail);
      })

  fails : (xs : List (K × V)) (log : List ℕ) → Nowhere test xs → Fail (picked xs log)
  fails xs [] nowhere = tt
  fails xs (q ∷ log) nowhere = there_or_not (slice_get xs q)
      (λ none. subst Fail (sym (picked_none xs q log none)) (fails xs log nowhere))
      (λ f some. subst Fail (sym (picked_some xs q log f some)) (nowhere q f some, fails xs log nowhere))

  lookup-fail : (ps : List (K × V)) → Fail ps → lookup test ps ≡ None
  lookup-fail [] fail = refl
  lookup-fail (p ∷ ps) fail = ap (λ b. cond b (Some p.1) (lookup test ps)) fail.0 ∙ lookup-fail ps fail.1

  lookup_key-fail : (ps : List (K × V)) → Fail ps → lookup_key test ps ≡ None
  lookup_key-fail [] fail = refl
  lookup_key-fail (p ∷ ps) fail = ap (λ b. cond b (Some p.0) (lookup_key test ps)) fail.0 ∙ lookup_key-fail ps fail.1

  remove_entry-fail : (ps : List (K × V)) → Fail ps → remove_entry test ps ≡ ps
  remove_entry-fail [] fail = refl
  remove_entry-fail (p ∷ ps) fail =
      ap (λ b. cond b ps (p ∷ remove_entry test ps)) fail.0 ∙ ap (λ l. p ∷ l) (remove_entry-fail ps fail.1)

  -- a key that is nowhere among the entries is not found in the list
  pub not_found : (xs : List (K × V)) (log : List ℕ) → Nowhere test xs → lookup test (picked xs log) ≡ None
  not_found xs log nowhere = lookup-fail (picked xs log) (fails xs log nowhere)

  -- taking it out changes nothing
  pub not_removed : (xs : List (K × V)) (log : List ℕ) → Nowhere test xs → remove_entry test (picked xs log) ≡ picked xs log
  not_removed xs log nowhere = remove_entry-fail (picked xs log) (fails xs log nowhere)

  -- and a touch of it changes nothing
  pub not_touched : (xs : List (K × V)) (log : List ℕ) (value : V) → Nowhere test xs → touched test value (picked xs log) ≡ picked xs log
  not_touched xs log value nowhere =
      let fail = fails xs log nowhere in
      ap₂ (λ l o. l ++ option_to_list (option_map (λ (k : K). (k, value)) o)) (remove_entry-fail (picked xs log) fail) (lookup_key-fail (picked xs log) fail)
      ∙ append-nil (picked xs log)

  -- a key at a place that the log has is found
  module _ (xs : List (K × V)) (log : List ℕ) (i place : ℕ) (p : K × V) (only : OnlyAt test place xs)
      (at : slice_get log i ≡ Some place) (has : slice_get xs place ≡ Some p)
      (one : (j : ℕ) → slice_get log j ≡ Some place → j ≡ i) where
    others_fail : (j q : ℕ) (f : K × V) → slice_get log j ≡ Some q → j ≢ i → slice_get xs q ≡ Some f → test f.0 ≡ false
    others_fail j q f at_j apart some = by (test f.0) refl
      where
        by : (b : Bool) → test f.0 ≡ b → b ≡ false
        by true pass = absurd (apart (one j (subst (λ r. slice_get log j ≡ Some r) (only.alone q f some pass) at_j)))
        by false pass = refl

    parts : Split (picked xs log) (picked xs (set log i (length xs))) p
    parts = split xs log i place (length xs) p at has (slice_get_past xs (length xs) (omega arith)) others_fail

    pub found : lookup test (picked xs log) ≡ Some p.1
    found = ap (lookup test) parts.with_it ∙ lookup-split parts.front parts.rest p parts.fail (only.passes p has)

    -- its pair is taken out of the middle
    pub removed_is : (hole : ℕ) → length xs ≤ hole → picked xs (set log i hole) ≡ remove_entry test (picked xs log)
    removed_is hole past =
        let s : Split (picked xs log) (picked xs (set log i hole)) p = split xs log i place hole p at has (slice_get_past xs hole past) others_fail in
        s.without_it ∙ sym (remove_entry-split s.front s.rest p s.fail (only.passes p has)) ∙ ap (remove_entry test) (sym s.with_it)

    -- its pair is taken out of the middle, and put behind the others
    pub touched_is : (hole : ℕ) (value : V) → length xs ≤ hole → picked xs (set log i hole) ++ (p.0, value) ∷ [] ≡ touched test value (picked xs log)
    touched_is hole value past =
        let s : Split (picked xs log) (picked xs (set log i hole)) p = split xs log i place hole p at has (slice_get_past xs hole past) others_fail in
        let pass = only.passes p has in
        ap (λ l. l ++ (p.0, value) ∷ []) (s.without_it ∙ sym (remove_entry-split s.front s.rest p s.fail pass) ∙ ap (remove_entry test) (sym s.with_it))
        ∙ ap (λ o. remove_entry test (picked xs log) ++ option_to_list (option_map (λ (k : K). (k, value)) o)) (sym (ap (lookup_key test) s.with_it ∙ lookup_key-split s.front s.rest p s.fail pass))
