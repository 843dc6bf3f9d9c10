-- One thread's place at a shared desk. Our own words.
use Rattle.std.specs.Prelude.{◌≡◌, ℕ, List, ◌++◌}
use Rattle.lb_desk_model.specs.declared.entry.Entry.{Entry}
use Rattle.lb_desk_shared.specs.Calls.{entries_of}
use Rattle.lb_desk_tie.specs.Receipts.{PassView}

-- what is seen of a seat
pub record SeatView : Type 0 where
  -- the thread's pass, with a receipt for each event that it asked the desk for
  pub pass : PassView Entry
  -- how many calls were refused
  pub refusals : ℕ
  -- how often it was asked to plan while all others wait
  pub planned_now : ℕ

abbrev pub seat_view : PassView Entry → ℕ → ℕ → SeatView
seat_view pass refusals planned_now = record { pass = pass; refusals = refusals; planned_now = planned_now }

-- a seat that nobody has asked yet
abbrev pub new_seat : PassView Entry → SeatView
new_seat pass = seat_view pass 0 0

abbrev pub with_refusals : SeatView → ℕ → SeatView
with_refusals seat refusals = record seat { refusals = refusals }

-- the entries of the seat: those of its pass
abbrev pub entries_at : SeatView → List Entry
entries_at seat = entries_of seat.pass.receipts

-- ---- what a call does before it is counted

abbrev pub KeepsCounts : SeatView → SeatView → Type 0
KeepsCounts old new = (new.refusals ≡ old.refusals) × (new.planned_now ≡ old.planned_now)

-- the call leaves the entries as they are
abbrev pub KeepsEntries : SeatView → SeatView → Type 0
KeepsEntries old new = (entries_at new ≡ entries_at old) × KeepsCounts old new

-- the call adds these entries
abbrev pub Adds : SeatView → SeatView → List Entry → Type 0
Adds old new added = (entries_at new ≡ entries_at old ++ added) × KeepsCounts old new
