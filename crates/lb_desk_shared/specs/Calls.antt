-- What a call on a desk of many threads leaves in the caller's pass. Our own words.
use Rattle.std.specs.Prelude.{◌≡◌, ℕ, ◌+◌, Bool, true, false, List, map, length}
use Rattle.pin_set.specs.declared.totals.Score.{Score}
use Rattle.dual_cert_plan.specs.Plans.{PlanParts}
use Rattle.dual_cert_plan.specs.Sheets.{SheetParts}
use Rattle.lb_desk_model.specs.declared.entry.Entry.{Entry}
use Rattle.lb_desk_model.specs.declared.event.Event.{Event}
use Rattle.lb_desk_model.specs.declared.event.Event.TheVariants.{Open, Close, Snapshot, Install}
use Rattle.lb_desk_model.specs.declared.reply.Reply.{Reply}
use Rattle.lb_desk_model.specs.declared.reply.Reply.TheVariants.{Sheet, Installed}
use Rattle.lb_desk_model.specs.Backends.{BackendParts}
use Rattle.lb_desk_model.specs.Histories.{History}
use Rattle.lb_desk_model.specs.States.{State, opening}
use Rattle.lb_desk_model.specs.Steps.{Step}
use Rattle.lb_desk_ports.specs.Calls.{entry}
use Rattle.lb_desk_ports.specs.Movers.{IsPlanFor}
use Rattle.lb_desk_tie.specs.Receipts.{Each, PassView, StandsIn, rises, with_receipt}

-- the event opens or ends a connection, for which there are calls of their own
abbrev pub is_of_a_connection : Event → Bool
is_of_a_connection (Open server) = true
is_of_a_connection (Close server) = true
is_of_a_connection event = false

-- A history of the backend, from its opening on, has as many entries as the number says, the receipts that the caller had stand
-- in it, and the event with this reply is its next step
pub record IsStepAt (backend : BackendParts) (receipts : List (ℕ × Entry)) (number : ℕ) (event : Event) (reply : Reply) : Type 0 where
  pub history : List Entry
  pub counted : length history ≡ number
  -- each receipt's entry stands at its number, and a later receipt has a greater one
  pub stand : Each (StandsIn history) receipts
  pub rise : rises receipts ≡ true
  pub old : State
  pub before : History (opening backend) history old
  pub new : State
  pub step : Step old event reply new

-- the entry of each receipt
abbrev pub entries_of : List (ℕ × Entry) → List Entry
entries_of receipts = map (λ (receipt : ℕ × Entry). receipt.1) receipts

-- the pass has a receipt more, of the event with this reply, which is the next step of a history that the others stand in
pub record AddsStep (backend : BackendParts) (old : PassView Entry) (event : Event) (reply : Reply) (new : PassView Entry) : Type 0 where
  pub number : ℕ
  pub receipt : new ≡ with_receipt old (number, entry event reply)
  -- so it is still a pass of the same desk
  pub keeper : new.keeper ≡ old.keeper
  pub step : IsStepAt backend old.receipts number event reply

-- Planning while all others wait adds two receipts, and no other event comes between them: that of a sheet, and that of a plan
-- for it, which was installed
pub record AddsPlan (backend : BackendParts) (old : PassView Entry) (score : Score) (new : PassView Entry) : Type 0 where
  pub sheet : SheetParts
  pub plan : PlanParts
  pub fit : IsPlanFor sheet plan
  pub between : PassView Entry
  pub snapshot : AddsStep backend old Snapshot (Sheet sheet) between
  pub install : AddsStep backend between (Install plan) (Installed score) new
  pub at_once : install.number ≡ snapshot.number + 1
  pub keeper : new.keeper ≡ old.keeper
