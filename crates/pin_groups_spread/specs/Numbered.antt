-- Pins and servers that are told apart by their numbers.
use Rattle.std.specs.Prelude.{◌≡◌, ℕ, ◌+◌, ◌^◌, ◌/◌, ◌%◌, ◌<◌, ◌≤◌, true, List, [], ◌∷◌, length, slice_index_or, All}
use Rattle.std.specs.Net.Addr.{ipv4_bits}
use Rattle.lb_types.specs.declared.limits.TheConstants.{MAX_COST, MAX_PINS, MAX_SERVERS}
use Rattle.lb_types.specs.Names.{is_name}
use Rattle.lb_types.specs.Servers.{has}
use Rattle.pin_set.specs.declared.pin.Pin.{Pin}
use Rattle.pin_set.specs.declared.pin_key.PinKey.{PinKey}
use Rattle.pin_set.specs.declared.pin_key.PinKey.TheVariants.{Ipv4, Text}
use Rattle.pin_set.specs.declared.view.ViewServer.{ViewServer}
use Rattle.pin_set.specs.Views.{IsBelow}
use Rattle.pin_groups_spread.specs.declared.numbered.PlainPin.{PlainPin}

-- the pin without its key
abbrev pub plain_of : Pin → PlainPin
plain_of pin = record { place = pin.place; want = pin.id.want; cost = pin.cost }

-- each element has the property of its number
abbrev pub EachNumbered : {X : Type 0} → (ℕ → X → Type 0) → List X → Type 0
EachNumbered {X} P xs = (k : ℕ) (d : X) → k < length xs → P k (slice_index_or xs k d)

-- what a view asks of a pin, but for its key
pub record IsPlain (n : ℕ) (pin : PlainPin) : Type 0 where
  pub place : IsBelow n pin.place
  pub cost_from : 1 ≤ pin.cost
  pub cost_to : pin.cost ≤ MAX_COST

-- each of the servers is one of the first n
abbrev pub AreBelow : ℕ → ℕ → Type 0
AreBelow n servers = (server : ℕ) → has servers server ≡ true → server < n

-- there is a view of servers with these capacities and of these pins
pub record CanBeNumbered (usable : ℕ) (rooms : List ℕ) (pins : List PlainPin) : Type 0 where
  pub few_servers : length rooms ≤ MAX_SERVERS
  pub few_pins : length pins ≤ MAX_PINS
  pub below : AreBelow (length rooms) usable
  pub plain : All (IsPlain (length rooms)) pins

-- the number of an address
abbrev pub key_number : PinKey → ℕ
key_number (Ipv4 address) = ipv4_bits address
key_number (Text text) = 0

-- the name of a server's number: two letters, `aa` to `ap`, `ba` to `bp` and so on
abbrev pub letters_of : ℕ → List ℕ
letters_of number = (97 + number / 16) ∷ (97 + number % 16) ∷ []

-- the server has the name of its number
pub record IsNumberedServer (number : ℕ) (server : ViewServer) : Type 0 where
  pub named : is_name server.name ≡ true
  pub letters : server.name ≡ letters_of number
  pub room : server.capacity < 2 ^ 32

abbrev pub AreNumberedServers : List ViewServer → Type 0
AreNumberedServers servers = EachNumbered IsNumberedServer servers

-- the pin has the key of its number, and may stand in a view of n servers
pub record IsNumberedPin (n own : ℕ) (pin : Pin) : Type 0 where
  pub number : key_number pin.id.key ≡ own
  pub place : IsBelow n pin.place
  pub cost_from : 1 ≤ pin.cost
  pub cost_to : pin.cost ≤ MAX_COST

abbrev pub AreNumberedPins : ℕ → List Pin → Type 0
AreNumberedPins n pins = EachNumbered (IsNumberedPin n) pins
