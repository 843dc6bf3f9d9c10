-- Which sheet stands for a view: what a planner has to know of it.
use Rattle.std.specs.Prelude.{◌≡◌, ℕ, Option, Some, None, List, map, unwrap_or, if◌then◌else◌}
use Rattle.std.specs.List.{enumerate_from}
use Rattle.lb_types.specs.Servers.{has}
use Rattle.lb_types_pins.specs.declared.kind.Row.{Row}
use Rattle.dual_cert_plan.specs.declared.server.Server.{Server}
use Rattle.dual_cert_plan.specs.Sheets.{SheetParts, capacity_of}
use Rattle.pin_set.specs.declared.view.ViewServer.{ViewServer}
use Rattle.pin_set.specs.Assignments.{IsBest}
use Rattle.pin_set.specs.Rows.{AreGroupsOf, Agrees, score_of, rows_score, AgreeingAreBest}
use Rattle.pin_set.specs.Views.{ViewParts, kinds_of, capacities}

-- the server with its number, as a sheet lists it: with its capacity where it is usable, and off elsewhere
abbrev pub listed_server : ℕ → ℕ × ViewServer → Server
listed_server usable numbered =
    record { name = numbered.1.name; capacity = if has usable numbered.0 then Some numbered.1.capacity else None }

-- the servers, as a sheet lists them
abbrev pub listed_servers : ℕ → List ViewServer → List Server
listed_servers usable servers = map (listed_server usable) (enumerate_from 0 servers)

-- the sheet has the view's servers, and as many pins of each kind as the view
pub record StandsFor (sheet : SheetParts) (view : ViewParts) : Type 0 where
  pub servers : sheet.servers ≡ listed_servers view.usable view.servers
  pub counts : AreGroupsOf sheet.groups (kinds_of view)

-- how many pins the sheet allows at the server
abbrev pub sheet_room : SheetParts → ℕ → ℕ
sheet_room sheet server = unwrap_or (capacity_of sheet.servers server) 0

-- for every view that the sheet stands for, every assignment that agrees with the rows is best, and has their score
pub record AreBestForViews (sheet : SheetParts) (rows : List Row) : Type 0 where
  pub best : (view : ViewParts) (a : List (Option ℕ)) → StandsFor sheet view → Agrees rows (kinds_of view) a
      → IsBest (capacities view) (kinds_of view) a
  pub score : (view : ViewParts) (a : List (Option ℕ)) → StandsFor sheet view → Agrees rows (kinds_of view) a
      → score_of (kinds_of view) a ≡ rows_score rows

-- what is best at a sheet's capacities is best for its views
abbrev pub ViewsHaveTheSheetsRoom : Type 0
ViewsHaveTheSheetsRoom = (sheet : SheetParts) (rows : List Row) → AgreeingAreBest (sheet_room sheet) rows → AreBestForViews sheet rows
