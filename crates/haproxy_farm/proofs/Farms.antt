-- The view of a farm.
use Rattle.std.proofs.Common.{◌≡◌, ℕ, ◌+◌, ◌^◌, ◌<◌, ◌≤◌, true, Option, Some, None, List, [], ◌∷◌, length, map, get_or, w32, refl, sym, ap, ◌∙◌, arith}
use Rattle.std.specs.Prelude.{◌≢◌, All}
use Rattle.std.specs.List.{enumerate_from}
use Rattle.std.specs.Int.{to_be_bytes, from_be_bytes}
use Rattle.std.specs.declared.net.ipv4_addr.Ipv4Addr.{Ipv4Addr}
use Rattle.std.proofs.lemmas.List.{length-map, get_or-map}
use Rattle.std.proofs.lemmas.List.FromFn.{length-enumerate_from, get_or-enumerate_from}
use Rattle.std.proofs.lemmas.Nat.{from_be_bytes-to_be_bytes_4}
use Rattle.lb_types.specs.Names.{is_name}
use Rattle.pin_set.specs.declared.pin.Pin.{Pin}
use Rattle.pin_set.specs.declared.pin_key.PinKey.{PinKey}
use Rattle.pin_set.specs.declared.pin_key.PinKey.TheVariants.{Ipv4}
use Rattle.pin_set.specs.declared.view.ViewServer.{ViewServer}
use Rattle.pin_set.specs.Views.{IsView}
use Rattle.haproxy_farm.specs.Farms.{CanBeFarm, key_of, farm_pin, farm_pins, farm_of}

pub length-farm_pins : (places : List (Option ℕ)) → length (farm_pins places) ≡ length places
length-farm_pins places = length-map (enumerate_from 0 places) farm_pin ∙ length-enumerate_from 0 places

-- the pin of an entry
pub get_or-farm_pins : (places : List (Option ℕ)) (i : ℕ) (d : Pin) (e : Option ℕ) → i < length places
    → get_or (farm_pins places) i d ≡ farm_pin (i, get_or places i e)
get_or-farm_pins places i d e below =
    let start : ℕ × Option ℕ = (0, e) in
    let long = length-enumerate_from 0 places in
    let at : 0 + i ≡ i = omega arith in
    get_or-map farm_pin (enumerate_from 0 places) i start d (omega arith)
    ∙ ap farm_pin (get_or-enumerate_from 0 places i start below ∙ rw at refl)

address_in : PinKey → List ℕ
address_in (Ipv4 address) = address.octets
address_in _ = []

-- keys of different numbers differ
same_key : (i j : ℕ) → i < 2 ^ 32 → j < 2 ^ 32 → key_of i ≡ key_of j → i ≡ j
unfolding key_of address_in
same_key i j small small' same =
    sym (from_be_bytes-to_be_bytes_4 i small)
    ∙ (ap (λ (k : PinKey). from_be_bytes w32 (address_in k)) same ∙ from_be_bytes-to_be_bytes_4 j small')

pub farm_is_view : (usable : ℕ) (servers : List ViewServer) (places : List (Option ℕ)) → CanBeFarm usable servers places
    → All (λ s. is_name s.name ≡ true) servers → All (λ s. s.capacity < 2 ^ 32) servers → IsView (farm_of usable servers places)
farm_is_view usable servers places can named room =
    let long = length-farm_pins places in
    record {
      few_servers = can.few_servers;
      named = named;
      room = room;
      distinct_servers = can.distinct;
      usable = can.usable_among;
      few_pins = omega (arith, can.few_places);
      distinct_pins = λ i j d less below same.
          let inside : j < length places = omega arith in
          let inside' : i < length places = omega arith in
          let keys : key_of i ≡ key_of j =
          ap (λ (p : Pin). p.id.key) (sym (get_or-farm_pins places i d None inside')) ∙ (ap (λ id. id.key) same ∙ ap (λ (p : Pin). p.id.key) (get_or-farm_pins places j d None inside)) in
          let one = same_key i j (omega (arith, can.few_places)) (omega (arith, can.few_places)) keys in
          absurd (omega arith);
      places = λ i d below. rw (get_or-farm_pins places i d None (omega arith)) (can.places_among i None (omega arith));
      cost_from = λ i d below. rw (get_or-farm_pins places i d None (omega arith)) (omega arith);
      cost_to = λ i d below. rw (get_or-farm_pins places i d None (omega arith)) (omega arith);
    }
