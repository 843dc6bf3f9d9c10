-- Desks that are numbered by their places, and the backends that they opened as.
use Rattle.std.proofs.Common.{◌≡◌, ◌∙◌, ℕ, zero, suc, ◌+◌, List, [], ◌∷◌, length, map, Some, slice_get, refl, sym, ap, subst, arith}
use Rattle.std.proofs.lemmas.List.{length-map}
use Rattle.std.proofs.lemmas.Option.{none-some, same_Some}
use Rattle.lb_config.specs.ConfigViews.{BackendView}
use Rattle.lb_desk_backend.specs.Configured.{OpenInOrder, OpensAt}
use Rattle.lb_desk_model.specs.Backends.{BackendParts, OpenedBackend}
use Rattle.lb_run_desks.specs.NewDeskView.{NewDeskView}
use Rattle.lb_run_desks.specs.NewDesks.{numbers, numbers_from}
use Rattle.lb_run.specs.Runs.{AreOpened, opened_as}
use Rattle.lb_run.proofs.Closings.{as_many}

-- ---- numbers

-- each has its place as its number
abbrev pub AreNumbered : List ℕ → Type 0
AreNumbered desks = (place desk : ℕ) → slice_get desks place ≡ Some desk → desk ≡ place

numbered_from : (n : ℕ) (news : List NewDeskView) (place one : ℕ) → slice_get (numbers_from n news) place ≡ Some one → one ≡ n + place
numbered_from n [] place one at = absurd (none-some one at)
numbered_from n (d ∷ ds) zero one at =
    let here : n ≡ n + zero = omega arith in
    sym (same_Some n one at) ∙ here
numbered_from n (d ∷ ds) (suc place) one at =
    let here : (n + 1) + place ≡ n + suc place = omega arith in
    numbered_from (n + 1) ds place one at ∙ here

pub numbered : (news : List NewDeskView) → AreNumbered (numbers news)
numbered news place one at =
    let here : 0 + place ≡ place = omega arith in
    numbered_from 0 news place one at ∙ here

-- ---- backends

module _ {A B : Type 0} (f : A → B) where
  -- what stands at a place of what was made of each
  pub map_at : (xs : List A) (place : ℕ) (x : A) → slice_get xs place ≡ Some x → slice_get (map f xs) place ≡ Some (f x)
  map_at [] place x at = absurd (none-some x at)
  map_at (y ∷ ys) zero x at = ap (λ (z : A). Some (f z)) (same_Some y x at)
  map_at (y ∷ ys) (suc place) x at = map_at ys place x at

-- what was made of each in two steps
pub map_of : {A B C : Type 0} (f : B → C) (g : A → B) (xs : List A) → map (λ x. f (g x)) xs ≡ map f (map g xs)
map_of f g [] = refl
map_of f g (x ∷ xs) = ap (λ ys. f (g x) ∷ ys) (map_of f g xs)

module _ (opening : ℕ → BackendParts) (sizes : ℕ → ℕ) where
  opens_at : (n : ℕ) (configs all : List BackendView) (desks : List ℕ) → AreOpened opening sizes configs desks
      → ((place : ℕ) → slice_get all (n + place) ≡ slice_get configs place)
      → ((place desk : ℕ) → slice_get desks place ≡ Some desk → desk ≡ n + place)
      → (place : ℕ) (one : OpenedBackend) → slice_get (map (opened_as opening sizes) desks) place ≡ Some one → OpensAt all (n + place) one
  opens_at n [] all [] are there at place one is = absurd (none-some one is)
  opens_at n [] all (d ∷ ds) are there at place one is = absurd are
  opens_at n (c ∷ cs) all [] are there at place one is = absurd are
  opens_at n (c ∷ cs) all (d ∷ ds) are there at zero one is =
      subst (λ (o : OpenedBackend). OpensAt all (n + zero) o) (same_Some (opened_as opening sizes d) one is)
      (record { config = c; there = there zero; number = at zero d refl; parts = are.0.0; journal_size = are.0.1 })
  opens_at n (c ∷ cs) all (d ∷ ds) are there at (suc place) one is =
      let moved : (p : ℕ) → n + suc p ≡ (n + 1) + p = λ p. omega arith in
      subst (λ (m : ℕ). OpensAt all m one) (sym (moved place))
      (opens_at (n + 1) cs all ds are.1 (λ p. ap (λ (m : ℕ). slice_get all m) (sym (moved p)) ∙ there (suc p))
      (λ p desk stands. at (suc p) desk stands ∙ moved p) place one is)

  -- desks that opened as is configured and are numbered by their places are those of the configuration
  pub open_in_order : (configs : List BackendView) (desks : List ℕ) → AreOpened opening sizes configs desks → AreNumbered desks
      → OpenInOrder configs (map (opened_as opening sizes) desks)
  open_in_order configs desks are numbers = record {
    count = length-map desks (opened_as opening sizes) ∙ as_many opening sizes configs desks are;
    each = λ place one is.
        let same : (p : ℕ) → 0 + p ≡ p = λ p. omega arith in
        subst (λ (m : ℕ). OpensAt configs m one) (same place)
        (opens_at 0 configs configs desks are (λ p. ap (λ (m : ℕ). slice_get configs m) (same p))
        (λ p desk stands. numbers p desk stands ∙ sym (same p)) place one is);
  }
