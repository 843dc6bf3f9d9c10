-- What `commands` writes, for HAProxy's answers and the text of a plan.
use Rattle.std.specs.Prelude.{◌≡◌, ℕ, true, List, [], ◌∷◌, map, drop, Option, Some, Ok}
use Rattle.haproxy_admin.specs.declared.entry.Entry.{Entry}
use Rattle.haproxy_admin.specs.declared.row.Server.{Server}
use Rattle.haproxy_admin.specs.Servers.{servers_of}
use Rattle.haproxy_admin.specs.Tables.{table_of}
use Rattle.haproxy_commands.specs.declared.moves.Move.{Move}
use Rattle.haproxy_commands.specs.Reading.{commands_in}
use Rattle.haproxy_commands.specs.Writing.{commands_of, text_of}
use Rattle.haproxy_farm.specs.Farms.{farm_of}
use Rattle.lb_types_text.specs.Parts.{parts}
use Rattle.dual_cert_plan.specs.Plans.{PlanParts}
use Rattle.dual_cert_text.specs.PlanTexts.{plan_of_text}
use Rattle.pin_groups_spread.specs.Accepted.{IsAcceptedFor}
use Rattle.pin_set.specs.Assignments.{IsBest}
use Rattle.pin_set.specs.Rows.{Agrees}
use Rattle.pin_set.specs.Views.{ViewParts, kinds_of, capacities}
use Rattle.lb_types.specs.Servers.{has}
use Rattle.lb_cli_haproxy.specs.PlanFarms.{farm_servers, is_on_at}
use Rattle.lb_cli_haproxy.specs.declared.clients.Client.{Client}
use Rattle.lb_cli_haproxy.specs.Clients.{clients_of, places_of}
use Rattle.lb_cli_haproxy.specs.Moves.{numbers_named, all_have_numbers, moves_of, said_by}

abbrev pub first_of : List (List ℕ) → List ℕ
first_of [] = []
first_of (first ∷ others) = first

-- what stands before the first such byte, or all where there is none
unfoldable pub first_part : ℕ → List ℕ → List ℕ
first_part mark bytes = first_of (parts mark bytes)

-- the table's name: in the first line, what follows `# table: ` up to a comma (44)
unfoldable pub table_name : List ℕ → List ℕ
table_name dump = first_part 44 (first_part 10 (drop 9 dump))

-- the farm of the plan's servers and of these clients, where these of its servers are usable
abbrev pub farm_by : PlanParts → List Client → ℕ → ViewParts
farm_by plan clients usable = farm_of usable (farm_servers plan) (places_of clients)

-- Usable are the servers that aren't off in the plan, and the check accepts it for a sheet of the clients' farm.
-- As many clients go to each of the places as the plan says, and no assignment is better.
pub record ArePlacesBy (plan : PlanParts) (clients : List Client) (places : List (Option ℕ)) : Type 0 where
  pub usable : ℕ
  pub on : (at : ℕ) → has usable at ≡ is_on_at plan.servers at
  pub accepted : IsAcceptedFor (farm_by plan clients usable) plan
  pub agree : Agrees plan.rows (kinds_of (farm_by plan clients usable)) places
  pub best : IsBest (capacities (farm_by plan clients usable)) (kinds_of (farm_by plan clients usable)) places

-- the moves are those of the clients whose place by the plan is another than before, each to the number of its new server
pub record AreMovesBy (plan : PlanParts) (servers : List Server) (clients : List Client) (moves : List Move) : Type 0 where
  pub places : List (Option ℕ)
  pub by_plan : ArePlacesBy plan clients places
  pub numbers : List ℕ
  pub numbered : map (λ number. Some number) numbers ≡ numbers_named servers (farm_servers plan)
  pub placed : all_have_numbers numbers places ≡ true
  pub exact : said_by moves ≡ moves_of numbers clients places

-- the text's commands are the moves by the plan of the table's clients
pub record AreCommandsFor (backend state dump plan_text text : List ℕ) : Type 0 where
  pub servers : List Server
  pub state_read : servers_of backend state ≡ Ok servers
  pub entries : List Entry
  pub dump_read : table_of dump ≡ Ok entries
  pub plan : PlanParts
  pub plan_read : plan_of_text plan_text ≡ Ok plan
  pub moves : List Move
  pub by_plan : AreMovesBy plan servers (clients_of servers (farm_servers plan) entries) moves
  pub spelled : text ≡ text_of (table_name dump) moves
  pub read_back : commands_in text ≡ commands_of (table_name dump) moves
