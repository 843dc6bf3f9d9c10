-- A backend's servers and where its clients' entries are, as a view. Its pins are the entries, in their order.
use Rattle.std.specs.Prelude.{◌≡◌, ◌≢◌, ℕ, ◌<◌, ◌≤◌, true, Option, List, map, length, All, AllPairs}
use Rattle.std.specs.List.{enumerate_from}
use Rattle.std.specs.Int.{w32, to_be_bytes}
use Rattle.std.specs.declared.net.ipv4_addr.Ipv4Addr.{Ipv4Addr}
use Rattle.lb_types.specs.declared.limits.TheConstants.{MAX_PINS, MAX_SERVERS}
use Rattle.lb_types.specs.Servers.{has}
use Rattle.pin_set.specs.declared.pin.Pin.{Pin}
use Rattle.pin_set.specs.declared.pin.PinId.{PinId}
use Rattle.pin_set.specs.declared.pin_key.PinKey.{PinKey}
use Rattle.pin_set.specs.declared.pin_key.PinKey.TheVariants.{Ipv4}
use Rattle.pin_set.specs.declared.view.ViewServer.{ViewServer}
use Rattle.pin_set.specs.Views.{ViewParts, IsBelow}

-- a backend can have these servers, with these of them usable and with entries at these places
pub record CanBeFarm (usable : ℕ) (servers : List ViewServer) (places : List (Option ℕ)) : Type 0 where
  pub few_servers : length servers ≤ MAX_SERVERS
  pub distinct : AllPairs (λ a b. a.name ≢ b.name) servers
  pub usable_among : (server : ℕ) → has usable server ≡ true → server < length servers
  pub few_places : length places ≤ MAX_PINS
  pub places_among : All (IsBelow (length servers)) places

-- the key of an entry's pin: the address with the entry's number
unfoldable pub key_of : ℕ → PinKey
key_of number = Ipv4 (record { octets = to_be_bytes w32 number })

-- the pin of an entry, by the entry's number and place: it wants no server, and a move costs 1
abbrev pub farm_pin : ℕ × Option ℕ → Pin
farm_pin entry = record { id = record { key = key_of entry.0; want = 0 }; place = entry.1; cost = 1 }

-- the pins of the entries at these places
abbrev pub farm_pins : List (Option ℕ) → List Pin
farm_pins places = map farm_pin (enumerate_from 0 places)

-- the view of a backend with these servers and with entries at these places
abbrev pub farm_of : ℕ → List ViewServer → List (Option ℕ) → ViewParts
farm_of usable servers places = record { usable = usable; servers = servers; pins = farm_pins places }
