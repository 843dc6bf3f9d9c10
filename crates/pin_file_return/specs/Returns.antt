-- Which pins of a file come back to a backend, and how they stand in its table. Servers are found by their names, so it makes no
-- difference where they stand in the configuration. Our own words.
use Rattle.std.specs.Prelude.{ℕ, ◌-◌, Bool, nat_le, Option, Some, None, List, [], ◌∷◌, length, drop, filter_map, find, if◌then◌else◌}
use Rattle.std.specs.List.{list_any}
use Rattle.std.specs.Option.{option_map, option_map_or}
use Rattle.lb_acl.specs.declared.key.TableType.{TableType}
use Rattle.lb_acl.specs.declared.key.TableType.TheVariants as Table
use Rattle.pin_set.specs.declared.pin.PinId.{PinId}
use Rattle.pin_set.specs.declared.pin_key.PinKey.{PinKey}
use Rattle.pin_set.specs.declared.pin_key.PinKey.TheVariants.{Ipv4, Text}
use Rattle.pin_set.specs.declared.table_pin.TablePin.{TablePin}
use Rattle.pin_set.specs.contracts.pin.PinIdPartialEq.TheImpl as name_eq
use Rattle.server_state.specs.Farm.{set_of}
use Rattle.dual_cert_text.specs.Words.{◌>>=◌}
use Rattle.lb_config_arguments.specs.Addresses.{ipv4_of}
use Rattle.lb_config_parameters.specs.TableViews.{StickTableView}
use Rattle.lb_config_values.specs.ServerView.{ServerView}
use Rattle.lb_config.specs.ConfigViews.{BackendView}
use Rattle.lb_config.specs.Finds.{server_place}
use Rattle.pin_file.specs.declared.file_pin.FilePin.{FilePin}
use Rattle.pin_file.specs.declared.backend_pins.BackendPins.{BackendPins}
use Rattle.pin_file.specs.Texts.{has_name}

-- ---- one pin

-- the numbers of the servers of these names, if all of them are in the configuration
abbrev pub places_of : List ServerView → List (List ℕ) → Option (List ℕ)
places_of servers [] = Some []
places_of servers (name ∷ names) = server_place servers name >>= λ server. (places_of servers names >>= λ more. Some (server ∷ more))

-- the key that these bytes are in a table of this type: an address in its one spelling, or a text that the table holds whole
abbrev pub held_key : TableType → List ℕ → Option PinKey
held_key Table.Ip bytes = option_map (λ address. Ipv4 address) (ipv4_of bytes)
held_key (Table.Text len) bytes = if nat_le (length bytes) len then Some (Text bytes) else None

-- a pin at a server
abbrev pub standing : PinKey → ℕ → ℕ → ℕ → ℕ → TablePin
standing key want server cost last_use =
    record { pin = record { id = record { key = key; want = want }; place = Some server; cost = cost }; last_use = last_use }

-- The pin as it stands in the table, if it comes back: it is at a server, its server and those that it wants are in the configuration, and
-- the table holds its key. It was used as long before this moment as it was before the file was made
unfoldable pub come_back : List ServerView → TableType → ℕ → FilePin → Option TablePin
come_back servers kind now p =
    p.server >>= λ name. (server_place servers name >>= λ server. (places_of servers p.wanted >>= λ wanted. (held_key kind p.key >>= λ key.
    Some (standing key (set_of wanted) server p.cost (now - p.age)))))

-- ---- the pins of a backend

-- some pin has this name
abbrev pub is_named : PinId → List TablePin → Bool
is_named name pins = list_any (λ p. (name_eq.ghosts).eq name p.pin.id) pins

-- of pins with one name the last one
unfoldable pub last_of_each : List TablePin → List TablePin
last_of_each [] = []
last_of_each (p ∷ pins) = if is_named p.pin.id pins then last_of_each pins else p ∷ last_of_each pins

-- the last ones, at most so many
abbrev pub last_ones : ℕ → List TablePin → List TablePin
last_ones size pins = drop (length pins - size) pins

-- those of these pins that come back to a table: of each name the one that was used last, and of these as many as the table may have
abbrev pub back_in_table : List ServerView → StickTableView → ℕ → List FilePin → List TablePin
back_in_table servers table now pins = last_ones table.size (last_of_each (filter_map (come_back servers table.kind now) pins))

-- the pins that a file has of the backend of this name
abbrev pub pins_of : List ℕ → List BackendPins → List FilePin
pins_of name file = option_map_or (λ b. b.pins) (find (has_name name) file) []

-- the pins that come back to the backend at this moment, in order of last use
abbrev pub returned_pins : BackendView → List BackendPins → ℕ → List TablePin
returned_pins backend file now =
    option_map_or (λ table. back_in_table backend.servers table now (pins_of backend.name file)) backend.rules.table []
