-- The prices that are written: a server that is off has none, and nothing depends on its price.
use Rattle.std.proofs.Common.{◌≡◌, get_or, Some, None, Option, ℕ, zero, suc, ◌^◌, ◌<◌, ◌≤◌, Bool, true, false, List, length, refl, sym, ap, ◌∙◌, ◌⊎◌, inl, inr, arith}
use Rattle.std.specs.List.{All, slice_get}
use Rattle.std.specs.Option.{option_map, option_map_or, option_and_then, is_some}
use Rattle.std.proofs.lemmas.Bool.{false≢true}
use Rattle.std.proofs.lemmas.List.{length-map}
use Rattle.std.proofs.lemmas.Option.{slice_get-get_or, slice_get-map}
use Rattle.std.proofs.lemmas.List.Elements.{All-get_or}
use Rattle.lb_types.specs.Servers.{has}
use Rattle.lb_types_pins.specs.declared.kind.Group.{Group}
use Rattle.dual_cert_plan.specs.declared.server.Server.{Server}
use Rattle.dual_cert_plan.specs.declared.server.PricedServer.{PricedServer}
use Rattle.dual_cert_plan.specs.Sheets.{SheetParts, IsSheet, IsKind, is_usable}
use Rattle.dual_cert_plan.specs.Plans.{PlanParts}
use Rattle.cert_check.specs.Verdict.{price_at}
use Rattle.flow_planner_net.specs.Networks.{NetworkParts, options, size, no_group, group_at, may, limit}
use Rattle.flow_planner_net.specs.States.{IsState, IsPriced}
use Rattle.flow_planner_net.proofs.Loads.{full-is}
use Rattle.flow_planner_net.proofs.Slackness.{may-some}
use Rattle.flow_planner_law.specs.Accepted.{network_of, IsWritten}
use Rattle.flow_planner_law.proofs.Lawful.{options-of}

-- the price is what it was, or it is given up where no pins may go
abbrev SameOrFree : NetworkParts → (ℕ → ℕ) → (ℕ → ℕ) → ℕ → Type 0
SameOrFree network old new o = (new o ≡ old o) ⊎ ((new o ≡ 0) × ((g : ℕ) → g < size network → may network g o ≡ false))

module _ (network : NetworkParts) (used : ℕ → ℕ → ℕ) (old new load : ℕ → ℕ) (each : (o : ℕ) → o < options network → SameOrFree network old new o) where
  same-where : (o g : ℕ) → o < options network → g < size network → may network g o ≡ true → new o ≡ old o
  same-where o g within group allowed =
      elim (each o within) [
        | inl same ↦ same
        | inr free ↦ absurd (false≢true (sym (free.1 g group) ∙ allowed))
      ]

  low : IsPriced network old load → (o : ℕ) → o < options network → new o ≤ limit network
  low priced o within =
      elim (each o within) [
        | inl same ↦ omega (arith, priced.low o within)
        | inr free ↦ let none = free.0 in omega arith
      ]

  filled : IsPriced network old load → (o : ℕ) → o < options network → 0 < new o → old o ≡ new o
  filled priced o within some =
      elim (each o within) [
        | inl same ↦ sym same
        | inr free ↦ let none = free.0 in absurd (omega arith)
      ]

  pub state-priced : IsState network used old load → IsState network used new load
  state-priced state = record {
    cheapest = record {
      allowed = state.cheapest.allowed;
      least = λ o k g within inside group some allowed.
          omega (
            arith,
            state.cheapest.least o k g within inside group some allowed,
            full-is network old g o,
            full-is network old g k,
            full-is network new g o,
            full-is network new g k,
            same-where o g within group (state.cheapest.allowed o g within group some),
            same-where k g inside group allowed,
          );
    };
    priced = record {
      full = λ o within some. state.priced.full o within (omega (arith, filled state.priced o within some));
      low = low state.priced;
    };
    loads = state.loads;
    placed = state.placed;
  }

-- the prices of a plan's options
abbrev pub prices_of : PlanParts → (ℕ → ℕ) → ℕ → ℕ
prices_of plan price zero = price 0
prices_of plan price (suc s) = price_at plan.servers s

pub prices_of-none : (plan : PlanParts) (price : ℕ → ℕ) → prices_of plan price 0 ≡ price 0
prices_of-none plan price = refl

pub prices_of-some : (plan : PlanParts) (price : ℕ → ℕ) (s : ℕ) → prices_of plan price (suc s) ≡ price_at plan.servers s
prices_of-some plan price s = refl

module _ (sheet : SheetParts) (used : ℕ → ℕ → ℕ) (price : ℕ → ℕ) (plan : PlanParts) (lawful : IsSheet sheet) (written : IsWritten sheet used price plan) where
  -- to a server that is off no pins may go
  never : (g s : ℕ) → g < size (network_of sheet) → is_usable sheet.servers s ≡ false → may (network_of sheet) g (suc s) ≡ false
  never g s group off = split (has (group_at (network_of sheet) g).kind.permitted s) refl
    where
      split : (b : Bool) → has (group_at (network_of sheet) g).kind.permitted s ≡ b → may (network_of sheet) g (suc s) ≡ false
      split true is =
          let kind = All-get_or (λ (h : Group). IsKind sheet.servers h.kind) sheet.groups g no_group group lawful.kinds in
          absurd (false≢true (sym off ∙ kind.permitted s is))
      split false is = may-some (network_of sheet) g s ∙ is

  same_or_free : (o : ℕ) → o < options (network_of sheet) → SameOrFree (network_of sheet) price (prices_of plan price) o
  same_or_free zero within = inl (prices_of-none plan price)
  same_or_free (suc s) within = split (is_usable sheet.servers s) refl
    where
      below : s < length sheet.servers
      below = omega (arith, options-of sheet)

      split : (b : Bool) → is_usable sheet.servers s ≡ b → SameOrFree (network_of sheet) price (prices_of plan price) (suc s)
      split true is =
          let here : price_at plan.servers s ≡ price (suc s) = rw is at (written.prices s below) in
          inl (prices_of-some plan price s ∙ here)
      split false is =
          let here : price_at plan.servers s ≡ 0 = rw is at (written.prices s below) in
          inr (prices_of-some plan price s ∙ here, λ g group. never g s group is)

  pub written-state : (load : ℕ → ℕ) → IsState (network_of sheet) used price load → IsState (network_of sheet) used (prices_of plan price) load
  written-state load state = state-priced (network_of sheet) used price (prices_of plan price) load same_or_free state

  pub many : length plan.servers ≡ length sheet.servers
  many = sym (length-map plan.servers (λ (p : PricedServer). p.server)) ∙ ap length written.servers

  there : (s : ℕ) (d : PricedServer) → s < length plan.servers → slice_get plan.servers s ≡ Some (get_or plan.servers s d)
  there s d within = slice_get-get_or plan.servers s d within

  price-there : (s : ℕ) (d : PricedServer) → s < length plan.servers → price_at plan.servers s ≡ (get_or plan.servers s d).price
  price-there s d within = ap (λ found. option_map_or (λ (p : PricedServer). p.price) found 0) (there s d within)

  usable-there : (s : ℕ) (d : PricedServer) → s < length plan.servers → is_usable sheet.servers s ≡ is_some (get_or plan.servers s d).server.capacity
  usable-there s d within =
      let found : slice_get sheet.servers s ≡ Some (get_or plan.servers s d).server =
      ap (λ (servers : List Server). slice_get servers s) (sym written.servers)
      ∙ (slice_get-map (λ (p : PricedServer). p.server) plan.servers s ∙ ap (option_map (λ (p : PricedServer). p.server)) (there s d within)) in
      ap (λ (server : Option Server). is_some (option_and_then (λ s. s.capacity) server)) found

  -- every price is low enough
  pub prices-low : (load : ℕ → ℕ) → IsState (network_of sheet) used price load → limit (network_of sheet) < 2 ^ 40 → All (λ p. p.price < 2 ^ 40) plan.servers
  prices-low load state small s d within =
      let inside : suc s < options (network_of sheet) = omega (arith, options-of sheet, many) in
      omega (arith, small, price-there s d within, prices_of-some plan price s, (written-state load state).priced.low (suc s) inside)

  -- a server that is off has no price
  pub off-free : All (λ p. p.server.capacity ≡ None → p.price ≡ 0) plan.servers
  off-free s d within off =
      let below : s < length sheet.servers = omega (arith, many) in
      let unusable : is_usable sheet.servers s ≡ false = usable-there s d within ∙ ap is_some off in
      let none : price_at plan.servers s ≡ 0 = rw unusable at (written.prices s below) in
      sym (price-there s d within) ∙ none
