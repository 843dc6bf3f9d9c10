-- What one more result does to a health that stands for a list of results.
use Rattle.std.proofs.Common.{◌≡◌, ℕ, zero, suc, ◌+◌, ◌-◌, ◌<◌, ◌≤◌, Bool, true, false, not, cond, leb, List, [], ◌∷◌, ◌++◌, refl, sym, ap, ◌∙◌, inl, inr, arith, add-one}
use Rattle.std.specs.Bool.{beq}
use Rattle.std.specs.Prelude.{reverse, replicate}
use Rattle.std.specs.List.{prefix_len}
use Rattle.std.proofs.lemmas.Bool.Decides.{leb_tells}
use Rattle.std.proofs.lemmas.List.{append_assoc, append-nil, reverse-append}
use Rattle.rise_fall.specs.Tally.{Tally, IsTally, needed}
use Rattle.rise_fall.specs.Health.{Base, fresh, forced_up, forced_down, forced, before, is_up, ends_up, tally_after, StandsFor}
use Rattle.rise_fall.proofs.Runs.{ends_up-push}

leb-true : (a b : ℕ) → a ≤ b → leb a b ≡ true
leb-true a b h = elim (leb_tells a b) [ inl within ↦ within.0 | inr past ↦ absurd (omega (arith, past.1)) ]

leb-false : (a b : ℕ) → b < a → leb a b ≡ false
leb-false a b h = elim (leb_tells a b) [ inl within ↦ absurd (omega (arith, within.1)) | inr past ↦ past.0 ]

cond-same : (b v : Bool) → cond b v v ≡ v
cond-same true v = refl
cond-same false v = refl

-- a server that counts so after these results, and what speaks against that
abbrev Counts : ℕ → ℕ → Bool → ℕ → List Bool → Type 0
Counts rise fall up against results =
    (up ≡ ends_up rise fall results) × (against ≡ prefix_len (beq (not up)) (reverse results))

-- a result that agrees
agreed : (rise fall : ℕ) (up : Bool) (against : ℕ) (results : List Bool) → 1 ≤ rise → 1 ≤ fall → Counts rise fall up against results → Counts rise fall up 0 (results ++ up ∷ [])
agreed rise fall true against results r f was =
    (sym (ends_up-push rise fall results true ∙ rw (leb-false fall 0 (omega arith), ← was.0, cond-same)), rw (reverse-append results (true ∷ [])) refl)
agreed rise fall false against results r f was =
    (sym (ends_up-push rise fall results false ∙ rw (leb-false rise 0 (omega arith), ← was.0, cond-same)), rw (reverse-append results (false ∷ [])) refl)

-- a result that disagrees, with too few before it
disagreed : (rise fall : ℕ) (up : Bool) (against : ℕ) (results : List Bool) → 1 ≤ rise → 1 ≤ fall → against + 1 < needed rise fall up → Counts rise fall up against results → Counts rise fall up (against + 1) (results ++ not up ∷ [])
disagreed rise fall true against results r f short was =
    (sym (ends_up-push rise fall results false ∙ rw (leb-false rise 0 (omega arith), ← was.1, leb-false fall (1 + against) (omega arith), ← was.0)), rw (reverse-append results (false ∷ []), ← was.1) (omega arith))
disagreed rise fall false against results r f short was =
    (sym (ends_up-push rise fall results true ∙ rw (leb-false fall 0 (omega arith), ← was.1, leb-false rise (1 + against) (omega arith), ← was.0)), rw (reverse-append results (true ∷ []), ← was.1) (omega arith))

-- a result that disagrees, with enough before it
turned : (rise fall : ℕ) (up : Bool) (against : ℕ) (results : List Bool) → 1 ≤ rise → 1 ≤ fall → needed rise fall up ≤ against + 1 → Counts rise fall up against results → Counts rise fall (not up) 0 (results ++ not up ∷ [])
turned rise fall true against results r f long was =
    (sym (ends_up-push rise fall results false ∙ rw (leb-false rise 0 (omega arith), ← was.1, leb-true fall (1 + against) (omega arith))), rw (reverse-append results (false ∷ [])) refl)
turned rise fall false against results r f long was =
    (sym (ends_up-push rise fall results true ∙ rw (← was.1, leb-true rise (1 + against) (omega arith))), rw (reverse-append results (true ∷ [])) refl)

-- a health that stands for these results, by its parts
record Stands (health : Tally) (rise fall : ℕ) (base : Base) (results : List Bool) : Type 0 where
  same_rise : health.rise ≡ rise
  same_fall : health.fall ≡ fall
  up : health.up ≡ is_up rise fall base results
  against : health.against ≡ prefix_len (beq (not health.up)) (reverse (before rise fall base ++ results))

stands-parts : (h : Tally) (rise fall : ℕ) (base : Base) (results : List Bool) → StandsFor h rise fall base results → Stands h rise fall base results
stands-parts h rise fall base results stands = record {
  same_rise = ap (λ t. t.rise) stands;
  same_fall = ap (λ t. t.fall) stands;
  up = ap (λ t. t.up) stands;
  against = rw (ap (λ (t : Tally). t.up) stands) (ap (λ t. t.against) stands);
}

parts-stand : (h : Tally) (rise fall : ℕ) (base : Base) (results : List Bool) → Stands h rise fall base results → StandsFor h rise fall base results
parts-stand h rise fall base results parts =
    let against : h.against ≡ prefix_len (beq (not (is_up rise fall base results))) (reverse (before rise fall base ++ results)) =
    parts.against ∙ ap (λ u. prefix_len (beq (not u)) (reverse (before rise fall base ++ results))) parts.up in
    λ i. record { rise = parts.same_rise i; fall = parts.same_fall i; up = parts.up i; against = against i }

replicate-push : (n : ℕ) (ok : Bool) → replicate (suc n) ok ≡ replicate n ok ++ ok ∷ []
replicate-push zero ok = refl
replicate-push (suc n) ok = ap (λ l. ok ∷ l) (replicate-push n ok)

-- read backwards, equal results begin with the last one
reverse-replicate-suc : (n : ℕ) (ok : Bool) → reverse (replicate (suc n) ok) ≡ ok ∷ reverse (replicate n ok)
reverse-replicate-suc n ok = ap reverse (replicate-push n ok) ∙ reverse-append (replicate n ok) (ok ∷ [])

-- the run at the end of a list of equal results
run-replicate : (ok : Bool) (n : ℕ) → prefix_len (beq ok) (reverse (replicate n ok)) ≡ n
run-replicate ok zero = refl
run-replicate true (suc n) =
    ap (prefix_len (beq true)) (reverse-replicate-suc n true) ∙ (ap (λ k. 1 + k) (run-replicate true n) ∙ omega arith)
run-replicate false (suc n) =
    ap (prefix_len (beq false)) (reverse-replicate-suc n false) ∙ (ap (λ k. 1 + k) (run-replicate false n) ∙ omega arith)

-- the other run is empty
run-replicate-other : (ok : Bool) (n : ℕ) → prefix_len (beq (not ok)) (reverse (replicate n ok)) ≡ 0
run-replicate-other ok zero = refl
run-replicate-other true (suc n) = ap (prefix_len (beq false)) (reverse-replicate-suc n true)
run-replicate-other false (suc n) = ap (prefix_len (beq true)) (reverse-replicate-suc n false)

-- one more equal result
ends_up-replicate : (rise fall n : ℕ) (ok : Bool) → ends_up rise fall (replicate (suc n) ok) ≡ cond (leb rise (prefix_len (beq true) (ok ∷ reverse (replicate n ok)))) true (cond (leb fall (prefix_len (beq false) (ok ∷ reverse (replicate n ok)))) false (ends_up rise fall (replicate n ok)))
ends_up-replicate rise fall n ok =
    ap (ends_up rise fall) (replicate-push n ok) ∙ ends_up-push rise fall (replicate n ok) ok

-- too few failures decide nothing
few_failures : (rise fall n : ℕ) → 1 ≤ rise → n < fall → ends_up rise fall (replicate n false) ≡ true
unfolding ends_up
few_failures rise fall zero r few = refl
few_failures rise fall (suc n) r few =
    ends_up-replicate rise fall n false ∙ rw (leb-false rise 0 (omega arith), run-replicate false n, leb-false fall (1 + n) (omega arith)) (few_failures rise fall n r (omega arith))

enough_failures : (rise fall : ℕ) → 1 ≤ rise → 1 ≤ fall → ends_up rise fall (replicate fall false) ≡ false
enough_failures rise zero r f = absurd (omega arith)
enough_failures rise (suc n) r f =
    ends_up-replicate rise (suc n) n false ∙ rw (leb-false rise 0 (omega arith), run-replicate false n, leb-true (suc n) (1 + n) (omega arith)) refl

enough_successes : (rise fall : ℕ) → 1 ≤ rise → ends_up rise fall (replicate rise true) ≡ true
enough_successes zero fall r = absurd (omega arith)
enough_successes (suc n) fall r =
    ends_up-replicate (suc n) fall n true ∙ rw (run-replicate true n, leb-true (suc n) (1 + n) (omega arith)) refl

pub StandsFor-fresh : (rise fall : ℕ) → 1 ≤ rise → 1 ≤ fall → StandsFor (record { rise = rise; fall = fall; up = true; against = fall - 1 }) rise fall fresh []
StandsFor-fresh rise fall r f = parts-stand _ rise fall fresh [] (record {
  same_rise = refl;
  same_fall = refl;
  up = rw (append-nil (replicate (fall - 1) false)) (sym (few_failures rise fall (fall - 1) r (omega arith)));
  against = rw (append-nil (replicate (fall - 1) false)) (sym (run-replicate false (fall - 1)));
})

pub StandsFor-forced : (rise fall : ℕ) (up : Bool) → 1 ≤ rise → 1 ≤ fall → StandsFor (record { rise = rise; fall = fall; up = up; against = 0 }) rise fall (forced up) []
StandsFor-forced rise fall true r f = parts-stand _ rise fall forced_up [] (record {
  same_rise = refl;
  same_fall = refl;
  up = rw (append-nil (replicate rise true)) (sym (enough_successes rise fall r));
  against = rw (append-nil (replicate rise true)) (sym (run-replicate-other true rise));
})
StandsFor-forced rise fall false r f = parts-stand _ rise fall forced_down [] (record {
  same_rise = refl;
  same_fall = refl;
  up = rw (append-nil (replicate fall false)) (sym (enough_failures rise fall r f));
  against = rw (append-nil (replicate fall false)) (sym (run-replicate-other false fall));
})

-- a health that counts as the list with its last result says
stands-counted : (h : Tally) (rise fall : ℕ) (base : Base) (results : List Bool) (ok : Bool) → h.rise ≡ rise → h.fall ≡ fall → Counts rise fall h.up h.against ((before rise fall base ++ results) ++ ok ∷ []) → StandsFor h rise fall base (results ++ ok ∷ [])
stands-counted h rise fall base results ok same_rise same_fall counts = parts-stand h rise fall base (results ++ ok ∷ []) (record {
  same_rise = same_rise;
  same_fall = same_fall;
  up = rw (← append_assoc (before rise fall base) results (ok ∷ [])) counts.0;
  against = rw (← append_assoc (before rise fall base) results (ok ∷ [])) counts.1;
})

pub StandsFor-agreed : (rise fall : ℕ) (up : Bool) (against r f : ℕ) (base : Base) (results : List Bool) → 1 ≤ rise → 1 ≤ fall → StandsFor (record { rise = rise; fall = fall; up = up; against = against }) r f base results → StandsFor (record { rise = rise; fall = fall; up = up; against = 0 }) r f base (results ++ up ∷ [])
StandsFor-agreed rise fall up against r f base results pr pf stands =
    let whole = before r f base ++ results in
    let parts = stands-parts _ r f base results stands in
    stands-counted _ r f base results up parts.same_rise parts.same_fall (agreed r f up against whole (omega (arith, parts.same_rise)) (omega (arith, parts.same_fall)) (parts.up, parts.against))

pub StandsFor-disagreed : (rise fall : ℕ) (up : Bool) (against r f : ℕ) (base : Base) (results : List Bool) → 1 ≤ rise → 1 ≤ fall → against + 1 < needed rise fall up → StandsFor (record { rise = rise; fall = fall; up = up; against = against }) r f base results → StandsFor (record { rise = rise; fall = fall; up = up; against = against + 1 }) r f base (results ++ not up ∷ [])
StandsFor-disagreed rise fall up against r f base results pr pf short stands =
    let whole = before r f base ++ results in
    let parts = stands-parts _ r f base results stands in
    stands-counted _ r f base results (not up) parts.same_rise parts.same_fall (disagreed r f up against whole (omega (arith, parts.same_rise)) (omega (arith, parts.same_fall)) (rw (← parts.same_rise, ← parts.same_fall) short) (parts.up, parts.against))

pub StandsFor-turned : (rise fall : ℕ) (up : Bool) (against r f : ℕ) (base : Base) (results : List Bool) → 1 ≤ rise → 1 ≤ fall → needed rise fall up ≤ against + 1 → StandsFor (record { rise = rise; fall = fall; up = up; against = against }) r f base results → StandsFor (record { rise = rise; fall = fall; up = not up; against = 0 }) r f base (results ++ not up ∷ [])
StandsFor-turned rise fall up against r f base results pr pf long stands =
    let whole = before r f base ++ results in
    let parts = stands-parts _ r f base results stands in
    stands-counted _ r f base results (not up) parts.same_rise parts.same_fall (turned r f up against whole (omega (arith, parts.same_rise)) (omega (arith, parts.same_fall)) (rw (← parts.same_rise, ← parts.same_fall) long) (parts.up, parts.against))

-- too few results of the other kind, behind a base that is forced
few_against : (rise fall : ℕ) (up : Bool) (against : ℕ) → 1 ≤ rise → 1 ≤ fall → against < needed rise fall up → (results : List Bool) × StandsFor (record { rise = rise; fall = fall; up = up; against = against }) rise fall (forced up) results
few_against rise fall up zero r f short = ([], StandsFor-forced rise fall up r f)
few_against rise fall up (suc k) r f short =
    let fewer = few_against rise fall up k r f (omega (arith, short)) in
    let more = StandsFor-disagreed rise fall up k rise fall (forced up) fewer.0 r f (omega (arith, short)) fewer.1 in
    (fewer.0 ++ not up ∷ [], rw add-one at more)

-- each health stands for some base and results
pub StandsFor-some : (health : Tally) → IsTally health.rise health.fall health.up health.against → (base : Base) × (results : List Bool) × StandsFor health health.rise health.fall base results
StandsFor-some health kept =
    let few = few_against health.rise health.fall health.up health.against kept.rise_from kept.fall_from kept.short in
    (forced health.up, few.0, few.1)

pub same-beq : (a b : Bool) → beq a b ≡ true → a ≡ b
same-beq true true e = refl
same-beq false false e = refl
same-beq true false e = sym e
same-beq false true e = e

pub other-beq : (a b : Bool) → beq a b ≡ false → a ≡ not b
other-beq true true e = e
other-beq false false e = sym e
other-beq true false e = refl
other-beq false true e = refl
