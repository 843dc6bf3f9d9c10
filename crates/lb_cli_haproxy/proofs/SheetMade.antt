-- What makes a text that of the sheet of HAProxy's servers and clients.
use Rattle.std.proofs.Common.{◌≡◌, ℕ, ◌++◌, ◌∷◌, true, List, Option, Ok}
use Rattle.std.specs.Prelude.{bytes_eq, find, is_some}
use Rattle.haproxy_admin.specs.declared.entry.Entry.{Entry}
use Rattle.haproxy_admin.specs.declared.row.Server.{Server}
use Rattle.haproxy_admin.specs.Servers.{servers_of}
use Rattle.haproxy_admin.specs.Tables.{table_of}
use Rattle.haproxy_farm.specs.Farms.{farm_of}
use Rattle.cert_check_law.specs.Sheets.{StandsFor}
use Rattle.dual_cert_plan.specs.Sheets.{SheetParts}
use Rattle.dual_cert_sheet.specs.SheetSpellings.{sheet_spelling}
use Rattle.lb_types.specs.Servers.{has}
use Rattle.pin_set.specs.declared.view.ViewServer.{ViewServer}
use Rattle.lb_cli_haproxy.specs.declared.clients.Client.{Client}
use Rattle.lb_cli_haproxy.specs.Clients.{clients_of, places_of}
use Rattle.lb_cli_haproxy.specs.Sheets.{IsSheetFor, bare_farm, farm_without, stays_on_at}

pub sheet : (target state dump text backend gone : List ℕ) (servers : List Server) (entries : List Entry) (bare farm : List ViewServer) (clients : List Client)
    (places : List (Option ℕ)) (usable : ℕ) (made : SheetParts)
    → target ≡ backend ++ 47 ∷ gone → servers_of backend state ≡ Ok servers → table_of dump ≡ Ok entries
    → is_some (find (λ (server : Server). bytes_eq server.name gone) servers) ≡ true
    → bare ≡ bare_farm servers → clients ≡ clients_of servers bare entries → places ≡ places_of clients
    → ((at : ℕ) → has usable at ≡ stays_on_at gone servers at) → farm ≡ farm_without gone servers places
    → StandsFor made (farm_of usable farm places) → text ≡ sheet_spelling made → IsSheetFor target state dump text
sheet target state dump text backend gone servers entries bare farm clients places usable made named state_read dump_read there same are stand on with_room exact spelled =
    record {
      backend = backend;
      gone = gone;
      named = named;
      servers = servers;
      state_read = state_read;
      there = there;
      entries = entries;
      dump_read = dump_read;
      usable = usable;
      on = on;
      sheet = made;
      exact =
          let exact_room = rw with_room at exact in
          let exact_places = rw stand at exact_room in
          let exact_clients = rw are at exact_places in
          rw same at exact_clients;
      spelled = spelled;
    }
