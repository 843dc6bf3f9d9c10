-- Which entries of HAProxy's table are clients of a farm, and at which of its servers each is.
use Rattle.std.specs.Prelude.{ℕ, ◌==◌, bytes_eq, List, map, find, filter_map, position, Option, Some, None}
use Rattle.std.specs.Option.{option_or, option_map}
use Rattle.haproxy_admin.specs.declared.entry.Entry.{Entry}
use Rattle.haproxy_admin.specs.declared.row.Server.{Server}
use Rattle.pin_set.specs.declared.view.ViewServer.{ViewServer}
use Rattle.lb_cli_haproxy.specs.declared.clients.Client.{Client}

-- the name of the first server with this number
unfoldable pub name_of_number : List Server → Option ℕ → Option (List ℕ)
name_of_number servers None = None
name_of_number servers (Some number) = option_map (λ server. server.name) (find (λ server. server.number == number) servers)

-- the name of the server that an entry names, by its name or else by its number
unfoldable pub server_named : List Server → Entry → Option (List ℕ)
server_named servers entry = option_or entry.server_name (name_of_number servers entry.server_number)

-- the place of the first server of the farm with this name
unfoldable pub place_named : List ViewServer → Option (List ℕ) → Option ℕ
place_named farm None = None
place_named farm (Some name) = position (λ server. bytes_eq server.name name) farm

-- the entry as a client at this place
abbrev pub client_at : Entry → Option ℕ → Option Client
client_at entry None = None
client_at entry (Some place) = Some (record { key = entry.key; place = Some place })

-- the client that an entry is, if it names a server of the farm
unfoldable pub client_of : List Server → List ViewServer → Entry → Option Client
client_of servers farm entry = client_at entry (place_named farm (server_named servers entry))

-- the clients of the farm among the entries, in their order
abbrev pub clients_of : List Server → List ViewServer → List Entry → List Client
clients_of servers farm entries = filter_map (client_of servers farm) entries

-- where the clients are
abbrev pub places_of : List Client → List (Option ℕ)
places_of clients = map (λ client. client.place) clients
