-- What a view's own rules say of its pins' kinds, and best assignments where the capacities are the same.
use Rattle.std.proofs.Common.{◌≡◌, ℕ, true, false, cond, eqb, Option, List, length, sym, ◌∙◌, arith}
use Rattle.std.specs.List.{All}
use Rattle.std.proofs.lemmas.Bool.{and_parts}
use Rattle.std.proofs.lemmas.List.Elements.{All-map}
use Rattle.lb_types.specs.Servers.{has, meet}
use Rattle.lb_types.proofs.Sets.{has-meet}
use Rattle.lb_types_pins.specs.declared.kind.PinKind.{PinKind}
use Rattle.pin_set.specs.Pins.{permitted}
use Rattle.pin_set.specs.Assignments.{IsLawful, IsBest, PermitsBelow, BoundHolds, unplaced_cost}
use Rattle.pin_set.specs.Views.{ViewParts, IsView, kind_of, kinds_of, capacities}
use Rattle.cert_check_law.proofs.Duality.{bound_holds}

-- a permitted server is usable
pub permitted_usable : (want usable server : ℕ) → has (permitted want usable) server ≡ true → has usable server ≡ true
permitted_usable want usable server =
    elim (eqb (meet want usable) 0) as (λ b. has (cond b usable (meet want usable)) server ≡ true → has usable server ≡ true) [
      | true ↦ λ is. is
      | false ↦ λ is. (and_parts (has want server) (has usable server) (sym (has-meet want usable server) ∙ is)).1
    ]

-- the permitted servers of a view's pins are among its servers
pub view_permits_below : (view : ViewParts) → IsView view → All (PermitsBelow (length view.servers)) (kinds_of view)
view_permits_below view lawful =
    All-map (PermitsBelow (length view.servers)) (kind_of view.usable) view.pins
    (λ i d within server is. lawful.usable server (permitted_usable _ view.usable server is))

pub view_bound_holds : (view : ViewParts) (price : ℕ → ℕ) → IsView view
    → BoundHolds (unplaced_cost (kinds_of view)) (capacities view) price (length view.servers) (kinds_of view)
view_bound_holds view price lawful =
    bound_holds (unplaced_cost (kinds_of view)) (capacities view) price (length view.servers) (kinds_of view) (view_permits_below view lawful)

pub lawful-same_capacities : (c d : ℕ → ℕ) (pins : List PinKind) (a : List (Option ℕ)) → ((server : ℕ) → c server ≡ d server)
    → IsLawful c pins a → IsLawful d pins a
lawful-same_capacities c d pins a same lawful = record {
  whole = lawful.whole;
  permitted = lawful.permitted;
  within = λ server. omega (arith, lawful.within server, same server);
}

-- what is best is best at the same capacities
pub best-same_capacities : (c d : ℕ → ℕ) (pins : List PinKind) (a : List (Option ℕ)) → ((server : ℕ) → c server ≡ d server)
    → IsBest c pins a → IsBest d pins a
best-same_capacities c d pins a same best =
    let back : (b : List (Option ℕ)) → IsLawful d pins b → IsLawful c pins b = λ b. lawful-same_capacities d c pins b (λ server. sym (same server)) in
    record {
      lawful = lawful-same_capacities c d pins a same best.lawful;
      fewest = λ b lawful. best.fewest b (back b lawful);
      cheapest = λ b lawful as_many. best.cheapest b (back b lawful) as_many;
    }
