-- Writes one after another.
use Rattle.std.proofs.Common.{◌≡◌, ℕ, ◌+◌, ◌-◌, ◌^◌, ◌<◌, ◌≤◌, true, false, not, ◌&&◌, eqb, cond, inl, inr, Option, Some, None, List, [], ◌++◌, length, take, drop, sym, ap, ◌∙◌, arith, append_assoc, append-nil}
use Rattle.std.specs.Io.KnownBytes.{Keeps, Appends}
use Rattle.std.proofs.Math.Seq.{take-add}
use Rattle.std.proofs.lemmas.Bool.{cases_lt}
use Rattle.std.proofs.lemmas.Bool.Decides.{nat_tests}
use Rattle.lb_types_counted.specs.Writers.{WriterState, one_more, Rises, WritesFront}

pub Appends-nil : (a : Option (List ℕ)) → Appends a a []
Appends-nil None = tt
Appends-nil (Some xs) = sym (append-nil xs)

pub Appends-kept : (a b : Option (List ℕ)) → Keeps a b → Appends a b []
Appends-kept None b kept = tt
Appends-kept (Some xs) None kept = absurd kept
Appends-kept (Some xs) (Some ys) kept = kept ∙ sym (append-nil xs)

pub Appends-then : (a b c : Option (List ℕ)) (xs ys : List ℕ) → Appends a b xs → Appends b c ys → Appends a c (xs ++ ys)
Appends-then None b c xs ys first second = tt
Appends-then (Some old) None c xs ys first second = absurd first
Appends-then (Some old) (Some mid) None xs ys first second = absurd second
Appends-then (Some old) (Some mid) (Some new) xs ys first second = second ∙ ap (λ l. l ++ ys) first ∙ append_assoc old xs ys

-- a failure counted is a rise
pub one_more-Rises : (old new : ℕ) → new ≡ one_more old → Rises old new
one_more-Rises old new is = record { kept = grind (arith, nat_tests); more = λ small. grind (arith, nat_tests) }

pub ≤-Rises : (old mid new : ℕ) → old ≤ mid → Rises mid new → Rises old new
≤-Rises old mid new before rises =
    let kept = rises.kept in
    record {
      kept = omega arith;
      more = λ small. elim (cases_lt mid (2 ^ 64 - 1)) [
        | inl below ↦ let more = rises.more below in omega arith
        | inr largest ↦ omega arith
      ];
    }

-- a write that took nothing of some bytes is a failure counted
pub counts_nothing_taken : (old new taken : ℕ) (bytes : List ℕ) → taken ≡ 0 → 0 < length bytes → new ≡ cond (eqb taken 0 && not (eqb (length bytes) 0)) (one_more old) old → new ≡ one_more old
counts_nothing_taken old new taken bytes none some counted =
    let z : eqb taken 0 ≡ true = grind (arith, nat_tests) in
    let s : eqb (length bytes) 0 ≡ false = grind (arith, nat_tests) in
    rw (z, s) at counted

-- a failure, where nothing more went out than before
pub front_of_nothing : (old mid new : WriterState) (text : List ℕ) → Appends old.contents mid.contents [] → Appends mid.contents new.contents [] → old.failures ≤ mid.failures → new.failures ≡ one_more mid.failures → WritesFront old new text
front_of_nothing old mid new text before nothing kept counted =
    record {
      front = (0, Appends-then old.contents mid.contents new.contents [] [] before nothing);
      failures = ≤-Rises old.failures mid.failures new.failures kept (one_more-Rises mid.failures new.failures counted);
    }

-- a part that was written, and then a part of the rest
pub Appends-take : (a b c : Option (List ℕ)) (bytes : List ℕ) (done taken : ℕ) → Appends a b (take done bytes) → Appends b c (take taken (drop done bytes)) → Appends a c (take (done + taken) bytes)
Appends-take a b c bytes done taken first second = rw (take-add done taken bytes) (Appends-then a b c (take done bytes) (take taken (drop done bytes)) first second)

-- a failure behind a part that was written
pub front_behind : (old mid new : WriterState) (bytes : List ℕ) (done : ℕ) → Appends old.contents mid.contents (take done bytes) → old.failures ≤ mid.failures → WritesFront mid new (drop done bytes) → WritesFront old new bytes
front_behind old mid new bytes done before kept fails =
    record {
      front = (done + fails.front.0, Appends-take old.contents mid.contents new.contents bytes done fails.front.0 before fails.front.1);
      failures = ≤-Rises old.failures mid.failures new.failures kept fails.failures;
    }
