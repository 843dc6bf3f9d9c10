-- The check that is due first among those that were looked at, of those whose servers are free.
use Rattle.std.proofs.Common.{◌≡◌, ℕ, suc, zero, add-one, ◌+◌, ◌<◌, ◌≤◌, Bool, true, false, nat_lt, List, [], ◌∷◌, ◌++◌, length, length-append, take, get_or, Option, Some, None, IfNone, refl, ap, sym, ◌∙◌, subst, arith}
use Rattle.std.specs.List.{All}
use Rattle.std.proofs.lemmas.Bool.{ltb-true, ltb-false, true≢false}
use Rattle.std.proofs.lemmas.List.{take-append-le, length-take-le, take_all}
use Rattle.std.proofs.lemmas.List.Elements.{All-append, All-get_or, All-from_get_or}
use Rattle.std.proofs.lemmas.Option.{slice_get-get_or, slice_get_within, get_or_from_slice_get}
use Rattle.std.proofs.Math.ListN.{get_or-append}
use Rattle.std.proofs.Math.Seq.{take-append_seam, get_or-append_seam, take-suc}
use Rattle.check_workers_round.specs.declared.check.Check.{Check}
use Rattle.check_workers_round.specs.Rounds.{IsFree, IsFirst}
use Rattle.check_workers_round.specs.Sooner.{is_sooner}

-- what was found among the checks so far
abbrev pub IsFound : List Bool → List Check → Option (ℕ × Check) → Type 0
IsFound under_way checks (Some found) = IsFirst under_way checks found.0 found.1
IsFound under_way checks None = All (λ check. ¬ IsFree under_way check) checks

-- what holds of each element, and more
all_weaken : (P Q : Check → Type 0) (xs : List Check) (d : Check) → ((x : Check) → P x → Q x) → All P xs → All Q xs
all_weaken P Q xs d so all = All-from_get_or Q xs d (λ i fits. so (get_or xs i d) (All-get_or P xs i d fits all))

all_one : (P : Check → Type 0) (x : Check) → P x → All P (x ∷ [])
all_one P x is = All-from_get_or P (x ∷ []) x (λ i fits. subst P (sym (only i fits)) is)
  where
    only : (i : ℕ) → i < 1 → get_or (x ∷ []) i x ≡ x
    only zero fits = refl
    only (suc i) fits = absurd (omega (arith, fits))

-- one more behind, that isn't free or isn't due before it
first_stays : (u : List Bool) (xs : List Check) (x : Check) (i : ℕ) (best : Check) → IsFirst u xs i best → (IsFree u x → best.due ≤ x.due)
    → IsFirst u (xs ++ x ∷ []) i best
first_stays u xs x i best is later =
    let fits : i < length xs = slice_get_within xs i best is.at in
    let more : i < length (xs ++ x ∷ []) = omega (arith, fits, length-append xs (x ∷ [])) in
    record {
      at = slice_get-get_or (xs ++ x ∷ []) i best more ∙ ap Some (get_or-append xs (x ∷ []) best i fits ∙ get_or_from_slice_get xs i best best is.at);
      free = is.free;
      soonest = All-append (λ other. IsFree u other → best.due ≤ other.due) xs (x ∷ []) is.soonest (all_one (λ other. IsFree u other → best.due ≤ other.due) x later);
      foremost = subst (All (λ other. IsFree u other → best.due < other.due)) (sym (take-append-le i xs (x ∷ []) (omega (arith, fits)))) is.foremost;
    }

-- one more behind, that is free and due before all that are
first_changes : (u : List Bool) (xs : List Check) (x : Check) → IsFree u x → All (λ other. IsFree u other → x.due < other.due) xs
    → IsFirst u (xs ++ x ∷ []) (length xs) x
first_changes u xs x free sooner =
    record {
      at = slice_get-get_or (xs ++ x ∷ []) (length xs) x (omega (arith, length-append xs (x ∷ []))) ∙ ap Some (get_or-append_seam xs x [] x);
      free = free;
      soonest = All-append (λ other. IsFree u other → x.due ≤ other.due) xs (x ∷ [])
          (all_weaken (λ other. IsFree u other → x.due < other.due) (λ other. IsFree u other → x.due ≤ other.due) xs x (λ other before is. omega (arith, before is)) sooner)
          (all_one (λ other. IsFree u other → x.due ≤ other.due) x (λ is. omega arith));
      foremost = subst (All (λ other. IsFree u other → x.due < other.due)) (sym (take-append_seam xs (x ∷ []))) sooner;
    }

-- none is due before one that is due before the first
sooner_than_first : (u : List Bool) (xs : List Check) (x : Check) (i : ℕ) (best : Check) → IsFirst u xs i best → x.due < best.due
    → All (λ other. IsFree u other → x.due < other.due) xs
sooner_than_first u xs x i best is sooner =
    all_weaken (λ other. IsFree u other → best.due ≤ other.due) (λ other. IsFree u other → x.due < other.due) xs x
    (λ other after free. omega (arith, after free, sooner)) is.soonest

-- none is free
sooner_than_none : (u : List Bool) (xs : List Check) (x : Check) → All (λ other. ¬ IsFree u other) xs → All (λ other. IsFree u other → x.due < other.due) xs
sooner_than_none u xs x none =
    all_weaken (λ other. ¬ IsFree u other) (λ other. IsFree u other → x.due < other.due) xs x (λ other not free. absurd (not free)) none

front_grows : (checks : List Check) (place : ℕ) (check : Check) → place < length checks → check ≡ get_or checks place check
    → take (place + 1) checks ≡ take place checks ++ check ∷ []
front_grows checks place check fits is = rw (add-one place) (take-suc checks place check fits ∙ ap (λ x. take place checks ++ x ∷ []) (sym is))

not_before : (a b : ℕ) → nat_lt a b ≡ false → b ≤ a
not_before a b is = ltb-false a b is

before : (a b : ℕ) → nat_lt a b ≡ true → a < b
before a b is = ltb-true a b is

-- the next check isn't free, or isn't due before what was found
pub found_stays : (u : List Bool) (checks : List Check) (place : ℕ) (check : Check) (found : Option (ℕ × Check)) → place < length checks
    → check ≡ get_or checks place check → IsFound u (take place checks) found → (IsFree u check → is_sooner check found ≡ false)
    → IsFound u (take (place + 1) checks) found
found_stays u checks place check (Some best) fits is known later =
    subst (λ xs. IsFirst u xs best.0 best.1) (sym (front_grows checks place check fits is))
    (first_stays u (take place checks) check best.0 best.1 known (λ free. not_before check.due best.1.due (later free)))
found_stays u checks place check None fits is known later =
    subst (All (λ other. ¬ IsFree u other)) (sym (front_grows checks place check fits is))
    (All-append (λ other. ¬ IsFree u other) (take place checks) (check ∷ []) known (all_one (λ other. ¬ IsFree u other) check (λ free. true≢false (later free))))

-- none was due before the next check
sooner_than_found : (u : List Bool) (xs : List Check) (check : Check) (found : Option (ℕ × Check)) → IsFound u xs found → is_sooner check found ≡ true
    → All (λ other. IsFree u other → check.due < other.due) xs
sooner_than_found u xs check (Some best) known sooner = sooner_than_first u xs check best.0 best.1 known (before check.due best.1.due sooner)
sooner_than_found u xs check None known sooner = sooner_than_none u xs check known

-- the next check is free and due before what was found
pub found_changes : (u : List Bool) (checks : List Check) (place : ℕ) (check : Check) (found : Option (ℕ × Check)) → place < length checks
    → check ≡ get_or checks place check → IsFound u (take place checks) found → IsFree u check → is_sooner check found ≡ true
    → IsFound u (take (place + 1) checks) (Some (place, check))
found_changes u checks place check found fits is known free sooner =
    let size : length (take place checks) ≡ place = length-take-le place checks (omega (arith, fits)) in
    subst (λ xs. IsFirst u xs place check) (sym (front_grows checks place check fits is))
    (subst (λ n. IsFirst u (take place checks ++ check ∷ []) n check) size
    (first_changes u (take place checks) check free (sooner_than_found u (take place checks) check found known sooner)))

-- nothing was found among all
pub none_found : (u : List Bool) (checks : List Check) (place : ℕ) (found : Option (ℕ × Check)) → length checks ≤ place → IsFound u (take place checks) found
    → IfNone found (All (λ check. ¬ IsFree u check) checks)
none_found u checks place (Some best) all known = tt
none_found u checks place None all known = subst (All (λ check. ¬ IsFree u check)) (take_all place checks all) known
