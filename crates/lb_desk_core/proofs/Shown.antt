-- What a core's parts show after a request.
use Rattle.std.proofs.Common.{◌≡◌, ℕ, Option, List, sym, ap}
use Rattle.server_state.specs.Farm.{FarmView}
use Rattle.capacity_book.specs.Book.{BookView}
use Rattle.pin_table.specs.Tables.{TableParts, after_use}
use Rattle.lb_types.specs.declared.table_settings.TableSettings.{TableSettings}
use Rattle.lb_types.specs.declared.balance.Balance.{Balance}
use Rattle.lb_desk_model.specs.declared.stand.Stand.{Stand}
use Rattle.lb_desk_model.specs.Seen.{Seen}
use Rattle.lb_desk_core.specs.Parts.{shown_of}

module _ (balance : Balance) (settings : Option TableSettings) (names : List (List ℕ)) (farm : FarmView) (book : BookView) (table : TableParts) (cursor : Option Stand) (latest : ℕ) where
  abbrev pub old_shown : Seen
  old_shown = shown_of balance settings names farm book table cursor latest

  -- after a use of a pin: the version isn't counted
  pub shown_used : (new_book : BookView) (new_table : TableParts) (new_cursor : Option Stand) (new_latest now : ℕ)
      → new_book.connections ≡ book.connections → new_table ≡ after_use table new_table.pins → new_latest ≡ now
      → record old_shown { pins = new_table.pins; cursor = new_cursor; latest = now }
      ≡ shown_of balance settings names farm new_book new_table new_cursor new_latest
  shown_used new_book new_table new_cursor new_latest now connections rest is =
      let same : book.connections ≡ new_book.connections = sym connections in
      let version : table.version ≡ new_table.version = sym (ap (λ (t : TableParts). t.version) rest) in
      let late : now ≡ new_latest = sym is in
      λ i. record {
        balance = balance;
        table = settings;
        names = names;
        farm = farm;
        connections = same i;
        pins = new_table.pins;
        cursor = new_cursor;
        latest = late i;
        version = version i;
      }
