-- What `sheet` writes, for HAProxy's answers.
use Rattle.std.specs.Prelude.{◌≡◌, ℕ, ◌+◌, ◌*◌, ◌==◌, ◌&&◌, Bool, true, false, not, max, List, [], ◌∷◌, ◌++◌, map, slice_get, length, count_by, bytes_eq, is_some, find, Option, Ok, if◌then◌else◌}
use Rattle.std.specs.Int.{div_ceil}
use Rattle.std.specs.Option.{option_map_or}
use Rattle.haproxy_admin.specs.declared.entry.Entry.{Entry}
use Rattle.haproxy_admin.specs.declared.row.Server.{Server}
use Rattle.haproxy_admin.specs.Servers.{servers_of}
use Rattle.haproxy_admin.specs.Tables.{table_of}
use Rattle.haproxy_farm.specs.Farms.{farm_of}
use Rattle.cert_check_law.specs.Sheets.{StandsFor}
use Rattle.dual_cert_plan.specs.Sheets.{SheetParts}
use Rattle.dual_cert_sheet.specs.SheetSpellings.{sheet_spelling}
use Rattle.lb_types.specs.Servers.{has}
use Rattle.pin_set.specs.Assignments.{load}
use Rattle.pin_set.specs.declared.view.ViewServer.{ViewServer}
use Rattle.lb_cli_haproxy.specs.Clients.{clients_of, places_of}

-- HAProxy's server as one of a farm, without room
abbrev pub bare_server : Server → ViewServer
bare_server server = record { name = server.name; capacity = 0 }

-- HAProxy's servers as those of a farm
abbrev pub bare_farm : List Server → List ViewServer
bare_farm servers = map bare_server servers

-- the server takes clients once the one of this name is emptied
abbrev pub stays_on : List ℕ → Server → Bool
stays_on gone server = server.is_on && not (bytes_eq server.name gone)

-- there is such a server at this place
unfoldable pub stays_on_at : List ℕ → List Server → ℕ → Bool
stays_on_at gone servers at = option_map_or (stays_on gone) (slice_get servers at) false

-- 5 per cent more than the even share of so many servers, rounded up; 0 if there is no server
abbrev pub share_of : ℕ → ℕ → ℕ
share_of clients servers = if servers == 0 then 0 else div_ceil (105 * clients) (100 * servers)

-- the server with room for the share, or for as many clients as it has, if that is more
abbrev pub server_with : ℕ → List (Option ℕ) → ℕ → ViewServer → ViewServer
server_with share places at server = record { name = server.name; capacity = max share (load places at) }

-- the servers from this place on with their room
unfoldable pub farm_with : ℕ → List (Option ℕ) → ℕ → List ViewServer → List ViewServer
farm_with share places at [] = []
farm_with share places at (server ∷ servers) = server_with share places at server ∷ farm_with share places (at + 1) servers

-- the servers with room for these clients, once one is emptied
abbrev pub farm_without : List ℕ → List Server → List (Option ℕ) → List ViewServer
farm_without gone servers places =
    farm_with (share_of (length places) (count_by (stays_on gone) servers)) places 0 (bare_farm servers)

-- The text is that of the sheet of HAProxy's servers and clients, in which one server takes no clients, and the others that are on do.
pub record IsSheetFor (target state dump text : List ℕ) : Type 0 where
  pub backend : List ℕ
  pub gone : List ℕ
  pub named : target ≡ backend ++ 47 ∷ gone
  pub servers : List Server
  pub state_read : servers_of backend state ≡ Ok servers
  pub there : is_some (find (λ server. bytes_eq server.name gone) servers) ≡ true
  pub entries : List Entry
  pub dump_read : table_of dump ≡ Ok entries
  pub usable : ℕ
  pub on : (at : ℕ) → has usable at ≡ stays_on_at gone servers at
  pub sheet : SheetParts
  pub exact : StandsFor sheet
      (farm_of usable (farm_without gone servers (places_of (clients_of servers (bare_farm servers) entries))) (places_of (clients_of servers (bare_farm servers) entries)))
  pub spelled : text ≡ sheet_spelling sheet
