-- What makes moves those of a plan, and a text that of their commands.
use Rattle.std.proofs.Common.{◌≡◌, ◌∙◌, ℕ, true, List, length, map, Option, Some, Ok}
use Rattle.std.specs.List.{enumerate_from}
use Rattle.std.proofs.lemmas.List.{length-map}
use Rattle.std.proofs.lemmas.List.FromFn.{length-enumerate_from}
use Rattle.haproxy_admin.specs.declared.entry.Entry.{Entry}
use Rattle.haproxy_admin.specs.declared.row.Server.{Server}
use Rattle.haproxy_admin.specs.Servers.{servers_of}
use Rattle.haproxy_admin.specs.Tables.{table_of}
use Rattle.haproxy_farm.specs.Farms.{farm_of, farm_pin, farm_pins}
use Rattle.haproxy_commands.specs.declared.moves.Move.{Move}
use Rattle.haproxy_commands.specs.Reading.{commands_in}
use Rattle.haproxy_commands.specs.Writing.{commands_of, text_of}
use Rattle.dual_cert_plan.specs.Plans.{PlanParts}
use Rattle.dual_cert_text.specs.PlanTexts.{plan_of_text}
use Rattle.pin_set.specs.declared.view.ViewServer.{ViewServer}
use Rattle.pin_set.specs.Views.{kind_of, kinds_of}
use Rattle.lb_cli_haproxy.specs.declared.clients.Client.{Client}
use Rattle.lb_cli_haproxy.specs.Clients.{clients_of}
use Rattle.lb_cli_haproxy.specs.Commands.{AreCommandsFor, AreMovesBy, ArePlacesBy, table_name}
use Rattle.lb_cli_haproxy.specs.Moves.{numbers_named, all_have_numbers, moves_of, said_by}
use Rattle.lb_cli_haproxy.specs.PlanFarms.{farm_servers}

-- the farm has a pin for each place
pub kinds_many : (usable : ℕ) (servers : List ViewServer) (places : List (Option ℕ)) → length (kinds_of (farm_of usable servers places)) ≡ length places
kinds_many usable servers places =
    length-map (farm_pins places) (kind_of usable) ∙ length-map (enumerate_from 0 places) farm_pin ∙ length-enumerate_from 0 places

pub moves : (plan : PlanParts) (servers : List Server) (farm : List ViewServer) (clients : List Client) (made : List Move) (places : List (Option ℕ)) (numbers : List ℕ)
    → ArePlacesBy plan clients places → farm ≡ farm_servers plan → map (λ (number : ℕ). Some number) numbers ≡ numbers_named servers farm
    → all_have_numbers numbers places ≡ true → said_by made ≡ moves_of numbers clients places → AreMovesBy plan servers clients made
moves plan servers farm clients made places numbers by_plan same numbered placed exact =
    record { places = places; by_plan = by_plan; numbers = numbers; numbered = rw same at numbered; placed = placed; exact = exact }

pub commands : (backend state dump plan_text text : List ℕ) (servers : List Server) (entries : List Entry) (plan : PlanParts) (farm : List ViewServer) (clients : List Client) (made : List Move)
    → servers_of backend state ≡ Ok servers → table_of dump ≡ Ok entries → plan_of_text plan_text ≡ Ok plan → farm ≡ farm_servers plan
    → clients ≡ clients_of servers farm entries → AreMovesBy plan servers clients made
    → text ≡ text_of (table_name dump) made → commands_in text ≡ commands_of (table_name dump) made
    → AreCommandsFor backend state dump plan_text text
commands backend state dump plan_text text servers entries plan farm clients made state_read dump_read plan_read same are by_plan spelled read_back =
    record {
      servers = servers;
      state_read = state_read;
      entries = entries;
      dump_read = dump_read;
      plan = plan;
      plan_read = plan_read;
      moves = made;
      by_plan = rw (← same, ← are) by_plan;
      spelled = spelled;
      read_back = read_back;
    }
