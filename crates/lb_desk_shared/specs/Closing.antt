-- What is true of a desk that was closed, and why one can't be closed yet. Our own words.
use Rattle.std.specs.Prelude.{◌≡◌, ℕ, true, nat_lt, Option, Some, None, List, ◌∷◌, ◌++◌, if◌then◌else◌}
use Rattle.dual_cert_plan.specs.Plans.{PlanParts}
use Rattle.lb_desk_model.specs.declared.entry.Entry.{Entry}
use Rattle.lb_desk_model.specs.declared.event.Event.TheVariants.{Install}
use Rattle.lb_desk_model.specs.declared.reply.Reply.{Reply}
use Rattle.lb_desk_model.specs.Backends.{BackendParts}
use Rattle.lb_desk_model.specs.Histories.{History}
use Rattle.lb_desk_model.specs.Seen.{seen}
use Rattle.lb_desk_model.specs.States.{State, opening}
use Rattle.lb_desk_model.specs.Worn.{open_connections}
use Rattle.lb_desk_ports.specs.Calls.{entry}
use Rattle.lb_desk_ports.specs.Movers.{NoneIsBad}
use Rattle.lb_desk_seen.specs.Logs.{Headline}
use Rattle.lb_desk_tail.specs.Tail.{IsTailOf}
use Rattle.lb_desk_tie.specs.Receipts.{Each, PassView, IsBeginningOf, Shares, receipts_of, sights_of}
use Rattle.lb_desk_shared.specs.declared.closing.CloseFault.{CloseFault}
use Rattle.lb_desk_shared.specs.declared.closing.CloseFault.TheVariants.{PassesOut, SlotsOut}
use Rattle.lb_desk_shared.specs.declared.closing.Closing.{Closing}
use Rattle.lb_desk_shared.specs.Desks.{TiedView}

-- the number of a fault in docs/FAULTS.md
abbrev pub close_fault_number : CloseFault → ℕ
close_fault_number PassesOut = 82
close_fault_number SlotsOut = 83

-- why a desk can't be closed with so many passes: fewer than it gave out, or else a connection is open
abbrev pub fault_of : TiedView → ℕ → Option CloseFault
fault_of tied passes =
    if nat_lt passes tied.keeper.passes then Some PassesOut
    else (if nat_lt 0 (open_connections tied.desk.shown) then Some SlotsOut else None)

-- the passes of a desk came back, and this is left of it
pub record Closes (backend : BackendParts) (passes : List (PassView Entry)) (closing : Closing) : Type 0 where
  -- a history of the backend from its opening on, of which the journal is the end
  pub history : List Entry
  pub end : State
  pub steps : History (opening backend) history end
  pub journal : IsTailOf history closing.journal
  -- each entry of the history has one receipt, at its number, and there is no other receipt
  pub receipts : Shares history (receipts_of passes)
  -- each sight of a pass is a beginning of the history: so is the desk of each copy and of each refusal
  pub sights : Each (IsBeginningOf history) (sights_of passes)
  -- no connection is open
  pub none_open : open_connections (seen end) ≡ 0
  -- each install of the history, also one that the journal has forgotten, is stale exactly where the view had changed, or refused
  -- as the check refuses it, or best
  pub headline : (early late : List Entry) (plan : PlanParts) (reply : Reply)
      → history ≡ early ++ entry (Install plan) reply ∷ late → Headline backend early plan reply late end
  -- no plan for a sheet that was given in the history was answered Bad
  pub none_bad : NoneIsBad history
  -- in each pass a later call has a greater number
  pub rising : closing.rising ≡ true
