-- The view of a backend: what decides which assignments of its pins are best.
use Rattle.std.specs.Prelude.{◌≡◌, ◌≢◌, ℕ, ◌^◌, ◌<◌, ◌≤◌, true, Option, Some, None, List, map, length, slice_get, All, AllPairs, if◌then◌else◌}
use Rattle.std.specs.Option.{ForSome}
use Rattle.lb_types.specs.declared.limits.TheConstants.{MAX_COST, MAX_PINS, MAX_SERVERS}
use Rattle.lb_types.specs.Names.{is_name}
use Rattle.lb_types.specs.Servers.{has}
use Rattle.lb_types_pins.specs.declared.kind.PinKind.{PinKind}
use Rattle.pin_set.specs.declared.pin.Pin.{Pin}
use Rattle.pin_set.specs.declared.view.ViewServer.{ViewServer}
use Rattle.pin_set.specs.Pins.{permitted}

-- the usable servers, every server in the configuration's order, and the pins in order of last use
pub record ViewParts : Type 0 where
  pub usable : ℕ
  pub servers : List ViewServer
  pub pins : List Pin

abbrev pub view_of_parts : ℕ → List ViewServer → List Pin → ViewParts
view_of_parts usable servers pins = record { usable = usable; servers = servers; pins = pins }

-- the place is none, or one of the first n servers
abbrev pub IsBelow : ℕ → Option ℕ → Type 0
IsBelow n place = ForSome place (λ server. server < n)

-- what every view keeps
pub record IsView (view : ViewParts) : Type 0 where
  pub few_servers : length view.servers ≤ MAX_SERVERS
  pub named : All (λ s. is_name s.name ≡ true) view.servers
  pub room : All (λ s. s.capacity < 2 ^ 32) view.servers
  pub distinct_servers : AllPairs (λ a b. a.name ≢ b.name) view.servers
  pub usable : (server : ℕ) → has view.usable server ≡ true → server < length view.servers
  pub few_pins : length view.pins ≤ MAX_PINS
  pub distinct_pins : AllPairs (λ a b. a.id ≢ b.id) view.pins
  pub places : All (λ pin. IsBelow (length view.servers) pin.place) view.pins
  pub cost_from : All (λ pin. 1 ≤ pin.cost) view.pins
  pub cost_to : All (λ pin. pin.cost ≤ MAX_COST) view.pins

-- the pin's kind, where these servers are usable
abbrev pub kind_of : ℕ → Pin → PinKind
kind_of usable pin = record { place = pin.place; permitted = permitted pin.id.want usable; cost = pin.cost }

-- the kinds of the pins, in their order
abbrev pub kinds_of : ViewParts → List PinKind
kinds_of view = map (kind_of view.usable) view.pins

-- how many pins a server may hold, and 0 where there is no such server
abbrev pub capacity_of : Option ViewServer → ℕ
capacity_of None = 0
capacity_of (Some server) = server.capacity

-- how many pins may be put at the server: its capacity where it is usable, and none elsewhere
abbrev pub capacities : ViewParts → ℕ → ℕ
capacities view server = if has view.usable server then capacity_of (slice_get view.servers server) else 0
