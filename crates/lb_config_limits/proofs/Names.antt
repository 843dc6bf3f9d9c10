-- Names looked up in the order of their bytes.
use Rattle.std.proofs.Common.{◌≡◌, ℕ, Bool, true, false, List, [], ◌∷◌, Some, Ok, Err, refl, sym, ◌∙◌}
use Rattle.std.specs.Prelude.{Option, not}
use Rattle.std.proofs.lemmas.Map.Text.{is_eq-slice_cmp}
use Rattle.std.specs.BTreeMap.{is_at}
use Rattle.std.specs.BTreeSet.{BTreeSet, contains, insert_key}
use Rattle.std.specs.Cmp.Lexicographic.{slice_cmp}
use Rattle.std.specs.List.{list_any}
use Rattle.std.specs.Ordering.{nat_cmp}
use Rattle.std.specs.Str.{bytes_eq}
use Rattle.lb_config_limits.specs.Limits.{added}
use Rattle.lb_config_limits.specs.declared.fault.LimitFault.TheVariants.{Duplicate}

-- whether the order finds the name
abbrev is_found : List ℕ → List (List ℕ) → Bool
is_found name names = list_any (is_at (slice_cmp nat_cmp name)) names

-- a name that the order finds is one with the same bytes
found_by_bytes : (name : List ℕ) (names : List (List ℕ)) → is_found name names ≡ list_any (bytes_eq name) names
found_by_bytes name [] = refl
found_by_bytes name (first ∷ more) = rw (is_eq-slice_cmp name first, found_by_bytes name more) refl

absent : (found is_new : Bool) → is_new ≡ not found → is_new ≡ true → found ≡ false
absent true is_new is new = sym new ∙ is
absent false is_new is new = refl

present : (found is_new : Bool) → is_new ≡ not found → is_new ≡ false → found ≡ true
present true is_new is known = refl
present false is_new is known = sym known ∙ is

-- a name that is new comes in at its place
pub added_new : (names : List (List ℕ)) (given : Option (List ℕ)) (set new : BTreeSet (List ℕ)) (name key : List ℕ) (is_new : Bool) →
    names ≡ set.keys → given ≡ Some name → key ≡ name → is_new ≡ not (contains (slice_cmp nat_cmp) set key) → is_new ≡ true →
    new.keys ≡ insert_key (slice_cmp nat_cmp) set.keys key → added names given ≡ Ok new.keys
unfolding added
added_new names given set new name key is_new seen is same found fresh inserted =
    rw (inserted, seen, is, ← same, sym (found_by_bytes key set.keys) ∙ absent (is_found key set.keys) is_new found fresh) refl

-- a name that is known is refused
pub added_again : (names : List (List ℕ)) (given : Option (List ℕ)) (set : BTreeSet (List ℕ)) (name key : List ℕ) (is_new : Bool) →
    names ≡ set.keys → given ≡ Some name → key ≡ name → is_new ≡ not (contains (slice_cmp nat_cmp) set key) → is_new ≡ false →
    added names given ≡ Err Duplicate
unfolding added
added_again names given set name key is_new seen is same found known =
    rw (seen, is, ← same, sym (found_by_bytes key set.keys) ∙ present (is_found key set.keys) is_new found known) refl
