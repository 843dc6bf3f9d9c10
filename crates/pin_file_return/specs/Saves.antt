-- What a file says of a table, and that it comes back. Our own words.
use Rattle.std.specs.Prelude.{◌≡◌, ◌≢◌, ℕ, ◌-◌, ◌<◌, ◌≤◌, Bool, true, Option, Some, List, map, length, filter, filter_map, slice_get, is_some, All, AllPairs}
use Rattle.std.specs.Option.{option_map, option_and_then}
use Rattle.std.specs.Net.Addr.{ipv4_octets}
use Rattle.std.specs.Net.Grammar.{IsIpv4Text}
use Rattle.std.specs.Net.Text.{ipv4_text}
use Rattle.lb_acl.specs.declared.key.TableType.{TableType}
use Rattle.lb_acl.specs.declared.key.TableType.TheVariants as Table
use Rattle.lb_types.specs.Servers.{has, members}
use Rattle.pin_set.specs.declared.pin_key.PinKey.{PinKey}
use Rattle.pin_set.specs.declared.pin_key.PinKey.TheVariants.{Ipv4, Text}
use Rattle.pin_set.specs.declared.table_pin.TablePin.{TablePin}
use Rattle.pin_set.specs.Views.{IsBelow}
use Rattle.lb_config_parameters.specs.TableViews.{StickTableView}
use Rattle.lb_config_values.specs.ServerView.{ServerView}
use Rattle.lb_config.specs.ConfigViews.{BackendView}
use Rattle.lb_config.specs.Kept.{IsServers}
use Rattle.pin_file.specs.declared.file_pin.FilePin.{FilePin}
use Rattle.pin_file.specs.declared.backend_pins.BackendPins.{BackendPins}
use Rattle.pin_file_return.specs.Returns.{pins_of, returned_pins}

-- the bytes of a key: of an address its text
abbrev pub key_bytes : PinKey → List ℕ
key_bytes (Ipv4 address) = ipv4_text (ipv4_octets address)
key_bytes (Text bytes) = bytes

-- the name of a server, if there is one of this number
abbrev pub name_at : List ServerView → ℕ → Option (List ℕ)
name_at servers server = option_map (λ s. s.name) (slice_get servers server)

-- the pin as a file of this moment says it
unfoldable pub saved_pin : List ServerView → ℕ → TablePin → FilePin
saved_pin servers now p = record {
  key = key_bytes p.pin.id.key;
  wanted = filter_map (name_at servers) (members p.pin.id.want);
  server = option_and_then (name_at servers) p.pin.place;
  cost = p.pin.cost;
  age = now - p.last_use;
}

-- what a file of this moment says of the backend with these pins
abbrev pub saved_pins : BackendView → List TablePin → ℕ → BackendPins
saved_pins backend pins now = record { name = backend.name; pins = map (saved_pin backend.servers now) pins }

-- ---- what was saved comes back

-- a table of this type may hold the key
abbrev pub IsHeld : TableType → PinKey → Type 0
IsHeld Table.Ip (Ipv4 address) = IsIpv4Text (ipv4_text (ipv4_octets address)) address
IsHeld (Table.Text len) (Text bytes) = length bytes ≤ len
IsHeld kind key = ⊥

-- the table may show these pins: there is room for them, their names are distinct, it holds their keys, and the servers that they are at and
-- those that they want are the backend's
pub record AreRowsOf (backend : BackendView) (table : StickTableView) (pins : List TablePin) : Type 0 where
  pub few : length pins ≤ table.size
  pub distinct : AllPairs (λ a b. a.pin.id ≢ b.pin.id) pins
  pub held : All (λ p. IsHeld table.kind p.pin.id.key) pins
  pub placed : All (λ p. IsBelow (length backend.servers) p.pin.place) pins
  pub wanted : All (λ p. (server : ℕ) → has p.pin.id.want server ≡ true → server < length backend.servers) pins

-- the pin is at a server
abbrev pub is_placed : TablePin → Bool
is_placed p = is_some p.pin.place

-- the pin, used as long before the one moment as it was before the other
abbrev pub as_old : ℕ → ℕ → TablePin → TablePin
as_old now saved p = record p { last_use = now - (saved - p.last_use) }

-- What a file of one moment says of a table comes back at another one, if the configuration is the same: the pins that are at a server, in
-- their order, each with its name, its server, its cost and its age
abbrev pub SavedPinsComeBack : Type 0
SavedPinsComeBack = (backend : BackendView) (table : StickTableView) (pins : List TablePin) (file : List BackendPins) (saved now : ℕ)
    → IsServers backend.servers → backend.rules.table ≡ Some table → AreRowsOf backend table pins
    → pins_of backend.name file ≡ map (saved_pin backend.servers saved) pins
    → returned_pins backend file now ≡ map (as_old now saved) (filter is_placed pins)
