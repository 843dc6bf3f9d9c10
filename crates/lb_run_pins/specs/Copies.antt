-- Copies of the tables of all backends. Our own words.
use Rattle.std.specs.Prelude.{◌≡◌, ℕ, List, Some, length, slice_get}
use Rattle.lb_config.specs.ConfigViews.{BackendView}
use Rattle.lb_desk_model.specs.declared.entry.Entry.{Entry}
use Rattle.lb_desk_model.specs.Backends.{OpenedBackend}
use Rattle.lb_desk_steer.specs.Steering.{SeesPins}
use Rattle.lb_run_pins.specs.Saved.{TableView}

-- a seat: the backend whose desk it is at, as that opened, the entries of its own events, and its sights
pub record SeatSeen : Type 0 where
  pub backend : OpenedBackend
  pub entries : List Entry
  pub sights : List (List Entry)

abbrev pub seat_seen : {S : Type 0} → (S → OpenedBackend) → (S → List Entry) → (S → List (List Entry)) → S → SeatSeen
seat_seen backend entries sights seat = record { backend = backend seat; entries = entries seat; sights = sights seat }

-- this is the table of the backend that is configured at the place, with the pins that the seat's desk had at a moment after all events of the seat.
-- The history at that moment is the seat's last sight
pub record IsCopyAt (configs : List BackendView) (seats used : List SeatSeen) (place : ℕ) (table : TableView) : Type 0 where
  pub old : SeatSeen
  pub new : SeatSeen
  pub there : slice_get seats place ≡ Some old
  pub after : slice_get used place ≡ Some new
  pub backend : slice_get configs place ≡ Some table.backend
  pub pins : SeesPins old.backend old.entries old.sights new.sights table.pins

-- these are copies of the tables of all backends that are configured, in their order
pub record AreCopies (configs : List BackendView) (seats used : List SeatSeen) (tables : List TableView) : Type 0 where
  pub count : length tables ≡ length configs
  pub each : (place : ℕ) (table : TableView) → slice_get tables place ≡ Some table → IsCopyAt configs seats used place table
