-- What a core keeps, and what it shows of it. No public clause cites this module.
use Rattle.std.specs.Prelude.{◌≡◌, ℕ, ◌<◌, Option, List, length}
use Rattle.std.specs.Option.{ForSome}
use Rattle.server_state.specs.Farm.{FarmView}
use Rattle.capacity_book.specs.Book.{BookView, pins_at}
use Rattle.pin_table.specs.Tables.{TableParts}
use Rattle.lb_types.specs.declared.table_settings.TableSettings.{TableSettings}
use Rattle.lb_types.specs.declared.balance.Balance.{Balance}
use Rattle.lb_desk_model.specs.declared.stand.Stand.{Stand}
use Rattle.lb_desk_model.specs.Seen.{Seen}
use Rattle.lb_desk_model.specs.Serves.{load}

-- what is shown of the parts
abbrev pub shown_of : Balance → Option TableSettings → List (List ℕ) → FarmView → BookView → TableParts → Option Stand → ℕ → Seen
shown_of balance settings names farm book table cursor latest = record {
  balance = balance;
  table = settings;
  names = names;
  farm = farm;
  connections = book.connections;
  pins = table.pins;
  cursor = cursor;
  latest = latest;
  version = table.version;
}

-- the parts fit each other
pub record AgreeParts (settings : Option TableSettings) (names : List (List ℕ)) (book : BookView) (table : TableParts) : Type 0 where
  -- the book has these servers, and counts the table's pins
  pub many : length book.pins ≡ length names
  pub loads : (server : ℕ) → server < length names → pins_at book server ≡ load table.pins server
  -- the table is as it is set, if it is; else nobody looks into it
  pub as_set : ForSome settings (λ t. (table.size ≡ t.size) × (table.no_purge ≡ t.no_purge))
