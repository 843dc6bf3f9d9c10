use Rattle.std.proofs.Common.{◌≡◌, ◌≤◌, ◌-◌, ℕ, Some, length, map, slice_get}
use Rattle.lb_run_pins.specs.Copies.{IsCopyAt, seat_seen}
use Rattle.lb_run_pins.specs.Saved.{TableView}
use Rattle.lb_run_pins.proofs.saving.copies.Given as goal

-- a copy for each backend so far; no seat from there on was asked, and each is at its desk
abbrev pub invariant-loop-place : goal.invariant-loop-place
invariant-loop-place g l =
    let seen = seat_seen g.D.Seat.Mover.backend g.D.Seat.Mover.entries g.D.Seat.Steer.sights in
    record {
      within : l.place ≤ length l.backends;
      count : length l.tables.items ≡ l.place;
      desks : map g.D.Seat.Mover.backend l.seats ≡ map g.D.Seat.Mover.backend l.fn.seats;
      rest : (place : ℕ) → l.place ≤ place → slice_get l.seats place ≡ slice_get l.fn.seats place;
      each : (place : ℕ) (table : TableView) → slice_get l.tables.items place ≡ Some table
          → IsCopyAt l.backends (map seen l.fn.seats) (map seen l.seats) place table;
    }

abbrev pub decreases-loop-place : goal.decreases-loop-place
decreases-loop-place g l = length l.backends - l.place
