-- Options of least cost: where the pins are if they may stay, and else the first server that they may go to.
use Rattle.std.proofs.Common.{◌≡◌, ℕ, zero, suc, ◌<◌, ◌≤◌, true, false, cond, ◌&&◌, Option, Some, None, ltb, refl, sym, ap, ◌∙◌, subst, inl, inr, arith}
use Rattle.std.specs.Prelude.{is_some}
use Rattle.std.proofs.lemmas.Bool.{cases_eq, cases_Bool, lt-ltb, ltb-true, and_from, and_parts, ne_eqb, true≢false}
use Rattle.std.proofs.lemmas.Option.{same_Some}
use Rattle.lb_types.specs.Servers.{has}
use Rattle.lb_types_pins.specs.Kinds.{same_place}
use Rattle.lb_types_pins.proofs.Order.{same_place-refl}
use Rattle.flow_planner_net.specs.Networks.{NetworkParts, options, group_at, cost, may, count}
use Rattle.flow_planner_net.proofs.Numbers.{may-none}
use Rattle.flow_planner.specs.Fillings.{IsHome, option_at, own_option, waiting}

-- to stay costs nothing
own-cost : (network : NetworkParts) (g s : ℕ) → (group_at network g).kind.place ≡ Some s → cost network g (suc s) ≡ 0
unfolding cost
own-cost network g s is =
    let same : same_place (group_at network g).kind.place (Some s) ≡ true = subst (λ (p : Option ℕ). same_place p (Some s) ≡ true) (sym is) (same_place-refl (Some s)) in
    rw same refl

own-least : (network : NetworkParts) (g o : ℕ) (place : Option ℕ) → (group_at network g).kind.place ≡ place → option_at network g place ≡ Some o
    → IsHome network g o
own-least network g o None is own = absurd (true≢false (ap is_some (sym own)))
own-least network g o (Some s) is own =
    let below = ltb (suc s) (options network) in
    let open_there = may network g (suc s) in
    elim (cases_Bool (below && open_there)) [
      | inl both ↦
          let parts = and_parts below open_there both in
          let taken : option_at network g (Some s) ≡ Some (suc s) = rw both refl in
          let same : suc s ≡ o = same_Some (suc s) o (sym taken ∙ own) in
          let free = own-cost network g s is in
          let home : IsHome network g (suc s) = record {
            there = ltb-true (suc s) (options network) parts.0;
            allowed = parts.1;
            least = λ k within allowed. omega (arith, free);
          } in
          subst (IsHome network g) same home
      | inr shut ↦
          let none : option_at network g (Some s) ≡ None = rw shut refl in
          absurd (true≢false (ap is_some (sym own ∙ none)))
    ]

-- where the pins are, if they may stay there, is an option of least cost
pub own-home : (network : NetworkParts) (g o : ℕ) → own_option network g ≡ Some o → IsHome network g o
own-home network g o own = own-least network g o (group_at network g).kind.place refl own

-- pins wait or stay, and all of a group do the same
pub stays : (network : NetworkParts) (g o : ℕ) → own_option network g ≡ Some o → waiting network g ≡ 0
stays network g o own = ap (λ (o : Option ℕ). cond (is_some o) 0 (count network g)) own

pub waits : (network : NetworkParts) (g : ℕ) → own_option network g ≡ None → waiting network g ≡ count network g
waits network g own = ap (λ (o : Option ℕ). cond (is_some o) 0 (count network g)) own

none-from : (n : ℕ) (own : Option ℕ) → 0 < cond (is_some own) 0 n → own ≡ None
none-from n None some = refl
none-from n (Some o) some = absurd (omega arith)

pub waits-from : (network : NetworkParts) (g : ℕ) → 0 < waiting network g → own_option network g ≡ None
waits-from network g some = none-from (count network g) (own_option network g) some

-- to go to a permitted server changes the place
is_away : (network : NetworkParts) (g k : ℕ) (place : Option ℕ) → option_at network g place ≡ None → suc k < options network
    → may network g (suc k) ≡ true → same_place place (Some k) ≡ false
is_away network g k None away below allowed = refl
is_away network g k (Some s) away below allowed =
    elim (cases_eq s k) [
      | inl same ↦
          let here : option_at network g (Some k) ≡ None = subst (λ s. option_at network g (Some s) ≡ None) same away in
          let both = and_from (ltb (suc k) (options network)) (may network g (suc k)) (lt-ltb (suc k) (options network) below) allowed in
          let taken : option_at network g (Some k) ≡ Some (suc k) = rw both refl in
          absurd (true≢false (ap is_some (sym taken ∙ here)))
      | inr other ↦ ne_eqb s k other
    ]

-- each server that the pins may go to costs them a move
away-cost : (network : NetworkParts) (g k : ℕ) → own_option network g ≡ None → suc k < options network
    → may network g (suc k) ≡ true → cost network g (suc k) ≡ (group_at network g).kind.cost
unfolding cost
away-cost network g k away below allowed = rw (is_away network g k (group_at network g).kind.place away below allowed) refl

-- pins may go to the servers of their set
pub may-has : (network : NetworkParts) (g k : ℕ) → may network g (suc k) ≡ has (group_at network g).kind.permitted k
unfolding may
may-has network g k = refl

module _ (network : NetworkParts) (g server : ℕ) (away : own_option network g ≡ None) (below : suc server < options network) (allowed : may network g (suc server) ≡ true) where
  server-least : cost network g (suc server) ≤ cost network g 0
      → (k : ℕ) → k < options network → may network g k ≡ true → cost network g (suc server) ≤ cost network g k
  server-least cheap zero within open_there = cheap
  server-least cheap (suc k) within open_there =
      omega (arith, away-cost network g server away below allowed, away-cost network g k away within open_there)

  -- a server costs the least, unless to have none costs less
  pub server-home : cost network g (suc server) ≤ cost network g 0 → IsHome network g (suc server)
  server-home cheap = record { there = below; allowed = allowed; least = server-least cheap }

  none-least : cost network g 0 < cost network g (suc server)
      → (k : ℕ) → k < options network → may network g k ≡ true → cost network g 0 ≤ cost network g k
  none-least cheap zero within open_there = omega arith
  none-least cheap (suc k) within open_there =
      omega (arith, away-cost network g server away below allowed, away-cost network g k away within open_there)

  pub none-home : cost network g 0 < cost network g (suc server) → IsHome network g 0
  none-home cheap = record { there = omega arith; allowed = may-none network g; least = none-least cheap }

closed-least : (network : NetworkParts) (g : ℕ) → ((k : ℕ) → suc k < options network → may network g (suc k) ≡ false)
    → (k : ℕ) → k < options network → may network g k ≡ true → cost network g 0 ≤ cost network g k
closed-least network g closed zero within open_there = omega arith
closed-least network g closed (suc k) within open_there = absurd (true≢false (sym open_there ∙ closed k within))

-- where the pins may go to no server, having none costs the least
pub closed-home : (network : NetworkParts) (g : ℕ) → 0 < options network → ((k : ℕ) → suc k < options network → may network g (suc k) ≡ false)
    → IsHome network g 0
closed-home network g some closed = record { there = some; allowed = may-none network g; least = closed-least network g closed }
