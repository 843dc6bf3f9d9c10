-- Backends at their places are those of the configuration in its order.
use Rattle.std.proofs.Common.{◌≡◌, ◌∙◌, ◌<◌, ℕ, zero, suc, List, [], ◌∷◌, length, Some, Result, Ok, Err, IfOk, OnErr, slice_get, refl, sym, subst, arith}
use Rattle.std.proofs.lemmas.Option.{same_Some, slice_get_within}
use Rattle.lb_config.specs.ConfigViews.{BackendView}
use Rattle.lb_desk_backend.specs.Configured.{OpenInOrder, OpensAt}
use Rattle.lb_desk_model.specs.Backends.{OpenedBackend}
use Rattle.lb_run_floor.specs.Places.{AreAt, IsAt}

-- something is at a place within the list
found : (configs : List BackendView) (place : ℕ) → place < length configs → (config : BackendView) × (slice_get configs place ≡ Some config)
found [] place within = absurd (omega arith)
found (c ∷ cs) zero within = (c, refl)
found (c ∷ cs) (suc place) within = found cs place (omega arith)

opens_at : (configs : List BackendView) (opened : List OpenedBackend) → AreAt configs opened → (place : ℕ) (one : OpenedBackend)
    → slice_get opened place ≡ Some one → OpensAt configs place one
opens_at configs opened are place one at =
    let within : place < length configs = omega (arith, slice_get_within opened place one at, are.count) in
    let config = found configs place within in
    let is : IsAt place config.0 one = are.each place config.0 one config.1 at in
    record { config = config.0; there = config.1; number = is.number; parts = is.parts; journal_size = is.journal_size }

pub in_order : (configs : List BackendView) (opened : List OpenedBackend) → AreAt configs opened → OpenInOrder configs opened
in_order configs opened are = record { count = are.count; each = opens_at configs opened are }

-- and the other way round
pub at_places : (configs : List BackendView) (opened : List OpenedBackend) → OpenInOrder configs opened → AreAt configs opened
at_places configs opened are = record {
  count = are.count;
  each = λ place config one there at.
      let opens : OpensAt configs place one = are.each place one at in
      let same : opens.config ≡ config = same_Some opens.config config (sym opens.there ∙ there) in
      subst (λ (c : BackendView). IsAt place c one) same
      (record { number = opens.number; parts = opens.parts; journal_size = opens.journal_size });
}

module _ {A E : Type 0} where
  -- of a call that succeeded the one is so, and so the other
  pub ok_then : (P Q : A → Type 0) (answer : Result A E) → ((a : A) → P a → Q a) → IfOk answer P → IfOk answer Q
  ok_then P Q (Ok a) then is = then a is
  ok_then P Q (Err e) then is = tt

  pub err_then : (P Q : Type 0) (answer : Result A E) → (P → Q) → OnErr answer P → OnErr answer Q
  err_then P Q (Ok a) then is = tt
  err_then P Q (Err e) then is = then is
