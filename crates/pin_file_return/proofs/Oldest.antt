-- The greatest age, backend by backend.
use Rattle.std.proofs.Common.{◌≡◌, ℕ, ◌+◌, ◌<◌, ◌≤◌, ◌⊎◌, inl, inr, max, Some, slice_get, List, [], ◌∷◌, ◌++◌, length, get_or, take, refl, sym, ap, ◌∙◌, subst, arith}
use Rattle.std.specs.Prelude.{All, AllPairs, Any}
use Rattle.std.proofs.lemmas.Bool.{cases_lt}
use Rattle.std.proofs.lemmas.List.{length-append, get_or_append_left, take_more}
use Rattle.std.proofs.lemmas.List.Elements.{All-nil, All-cons, All-push, All-weaker}
use Rattle.std.proofs.lemmas.List.Quantifiers.{Any-push}
use Rattle.std.proofs.lemmas.Option.{none-some, same_Some}
use Rattle.lb_types_pins.proofs.Pairs.{AllPairs-head}
use Rattle.pin_file.specs.declared.file_pin.FilePin.{FilePin}
use Rattle.pin_file.specs.declared.backend_pins.BackendPins.{BackendPins}
use Rattle.pin_file_return.specs.Ages.{IsGreatestAge}

abbrev Below : ℕ → FilePin → Type 0
Below age p = p.age ≤ age

pub first_above : (pins : List FilePin) (p : FilePin) → AllPairs (λ a b. b.age ≤ a.age) pins → slice_get pins 0 ≡ Some p → All (λ q. q.age ≤ p.age) pins
first_above [] p falling is = absurd (none-some p is)
first_above (q ∷ pins) p falling is =
    subst (λ (x : FilePin). All (Below x.age) (q ∷ pins)) (same_Some q p is)
    (All-cons (Below q.age) q pins (omega arith) (AllPairs-head (λ (a b : FilePin). b.age ≤ a.age) q pins falling))

any-left : (P : BackendPins → Type 0) (xs : List BackendPins) (y : BackendPins) → Any P xs → Any P (xs ++ y ∷ [])
any-left P xs y a =
    let long = length-append xs (y ∷ []) in
    (a.0, a.1, omega (arith, a.2, long), get_or_append_left xs (y ∷ []) a.1 a.0 a.2 ∙ a.3, a.4)

raised : (low high : ℕ) (b : BackendPins) → low ≤ high → All (Below low) b.pins → All (Below high) b.pins
raised low high b above all = All-weaker (Below low) (Below high) (λ p below. omega (arith, below, above)) b.pins all

pub no_backends : (file : List BackendPins) → IsGreatestAge (take 0 file) 0
no_backends file = record { above = All-nil (λ (b : BackendPins). All (Below 0) b.pins); reached = inl refl }

-- one backend more, whose first pin's age is `first`
pushed : (file : List BackendPins) (b : BackendPins) (age first next : ℕ) → IsGreatestAge file age → All (λ p. p.age ≤ first) b.pins
    → (first ≡ 0) ⊎ Any (λ p. p.age ≡ first) b.pins → next ≡ max first age → IsGreatestAge (file ++ b ∷ []) next
pushed file b age first next is above reached e = record {
  above = All-push (λ (c : BackendPins). All (Below next) c.pins) file b
      (All-weaker (λ (c : BackendPins). All (Below age) c.pins) (λ (c : BackendPins). All (Below next) c.pins)
      (λ c all. raised age next c (omega (arith, e)) all) file is.above)
      (raised first next b (omega (arith, e)) above);
  reached = by (cases_lt age first);
}
  where
    own : age < first → (next ≡ 0) ⊎ Any (λ c. Any (λ p. p.age ≡ next) c.pins) (file ++ b ∷ [])
    own less =
        let same : first ≡ next = omega (arith, less, e) in
        elim reached [
          | inl none ↦ absurd (omega (arith, less, none))
          | inr some ↦ inr (Any-push (λ (c : BackendPins). Any (λ (p : FilePin). p.age ≡ next) c.pins) file b
              (subst (λ (n : ℕ). Any (λ (p : FilePin). p.age ≡ n) b.pins) same some))
        ]

    other : first ≤ age → (next ≡ 0) ⊎ Any (λ c. Any (λ p. p.age ≡ next) c.pins) (file ++ b ∷ [])
    other above =
        let same : age ≡ next = omega (arith, above, e) in
        elim is.reached [
          | inl none ↦ inl (sym same ∙ none)
          | inr some ↦ inr (any-left (λ (c : BackendPins). Any (λ (p : FilePin). p.age ≡ next) c.pins) file b
              (subst (λ (n : ℕ). Any (λ (c : BackendPins). Any (λ (p : FilePin). p.age ≡ n) c.pins) file) same some))
        ]

    by : (age < first) ⊎ (first ≤ age) → (next ≡ 0) ⊎ Any (λ c. Any (λ p. p.age ≡ next) c.pins) (file ++ b ∷ [])
    by (inl less) = own less
    by (inr above) = other above

pub age_step : (file : List BackendPins) (i : ℕ) (b : BackendPins) (age first next : ℕ) → i < length file → b ≡ get_or file i b
    → IsGreatestAge (take i file) age → All (λ p. p.age ≤ first) b.pins → (first ≡ 0) ⊎ Any (λ p. p.age ≡ first) b.pins → next ≡ max first age
    → IsGreatestAge (take (i + 1) file) next
age_step file i b age first next below is so above reached e =
    subst (λ (l : List BackendPins). IsGreatestAge l next) (sym (take_more file i b below ∙ ap (λ (c : BackendPins). take i file ++ c ∷ []) (sym is)))
    (pushed (take i file) b age first next so above reached e)
