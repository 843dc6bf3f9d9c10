-- What a running desk is, and what it does with an event. The log is the list of all events that it has taken, each with its
-- reply; the journal is the log's end. The machine's steps are defined in `lb_desk_model`; the rest is our own.
use Rattle.std.specs.Prelude.{◌≡◌, ℕ, ◌+◌, Bool, true, false, List, [], ◌∷◌, ◌++◌, length}
use Rattle.dual_cert_plan.specs.Plans.{PlanParts}
use Rattle.lb_desk_model.specs.declared.entry.Entry.{Entry}
use Rattle.lb_desk_model.specs.declared.event.Event.{Event}
use Rattle.lb_desk_model.specs.declared.event.Event.TheVariants.{Serve, Set, Snapshot, Install}
use Rattle.lb_desk_model.specs.declared.reply.Reply.{Reply}
use Rattle.lb_desk_model.specs.Backends.{BackendParts, IsBackend}
use Rattle.lb_desk_model.specs.Seen.{Seen, Steps, seen}
use Rattle.lb_desk_model.specs.States.{opening}
use Rattle.lb_desk_model.specs.Worn.{is_worn}
use Rattle.lb_desk_law.specs.Worlds.{entry}
use Rattle.lb_desk_ports.specs.Movers.{NoneIsBad}
use Rattle.lb_desk_seen.specs.Counting.{Fits}
use Rattle.lb_desk_seen.specs.Logs.{Headline}
use Rattle.lb_desk_seen.specs.Reached.{Reaches}
use Rattle.lb_desk_tail.specs.Tail.{TailView, IsTailOf, empty_tail, with_entry}

pub record DeskView : Type 0 where
  pub shown : Seen
  -- the newest entries of the log, at most as many as its capacity, and the number of the first of them
  pub journal : TailView Entry

-- how many events it has taken
abbrev pub taken : DeskView → ℕ
taken desk = desk.journal.first + length desk.journal.entries

-- the desk of a backend at its opening, with room for so many entries
abbrev pub opening_desk : BackendParts → ℕ → DeskView
opening_desk backend capacity = record { shown = seen (opening backend); journal = empty_tail capacity }

-- the log, which begins at the backend's opening, leads to what the desk shows, and the journal is its end
pub record StandsAt (backend : BackendParts) (log : List Entry) (desk : DeskView) : Type 0 where
  pub reaches : Reaches backend log desk.shown
  pub end : IsTailOf log desk.journal

-- ---- an event

-- the desk takes no event more, but for the end of an open connection
abbrev pub is_worn_for : DeskView → Event → Bool
is_worn_for desk event = is_worn desk.shown (taken desk) event

-- the event may need memory: for a pin, a sheet, or the check of a plan
abbrev pub may_take_memory : Event → Bool
may_take_memory (Serve request) = true
may_take_memory (Set set) = true
may_take_memory Snapshot = true
may_take_memory (Install plan) = true
may_take_memory event = false

-- the desk takes the event with this reply
pub record Takes (old : DeskView) (event : Event) (reply : Reply) (new : DeskView) : Type 0 where
  -- whichever state was shown, the event is a step of it, and the state behind it is shown
  pub steps : Steps old.shown event reply new.shown
  -- the entry is the newest of the journal
  pub journal : new.journal ≡ with_entry old.journal (entry event reply)
  -- whichever log the desk stood at the end of, it is that log with the entry now
  pub log : (backend : BackendParts) (log : List Entry) → StandsAt backend log old → StandsAt backend (log ++ entry event reply ∷ []) new

-- ---- what every desk keeps

-- it stands at the end of some log of a lawful backend, and what it counts fits into 64 bits
pub record IsDesk (desk : DeskView) : Type 0 where
  pub backend : BackendParts
  pub lawful : IsBackend backend
  pub log : List Entry
  pub stands : StandsAt backend log desk
  pub fits : Fits (taken desk) desk.shown

-- Of each install of the whole log, whichever log the desk stands at the end of, and whether or not the journal still has the
-- install: it is stale exactly where the view had changed, or refused as the check refuses it, or best
abbrev pub KeepsHeadline : DeskView → Type 0
KeepsHeadline desk = (backend : BackendParts) (log : List Entry) → (at : StandsAt backend log desk)
    → (early late : List Entry) (plan : PlanParts) (reply : Reply) → log ≡ early ++ entry (Install plan) reply ∷ late
    → Headline backend early plan reply late at.reaches.state

-- whichever log the desk stands at the end of, no plan in it for a sheet that was given in it was answered Bad
abbrev pub KeepsNoneBad : DeskView → Type 0
KeepsNoneBad desk = (backend : BackendParts) (log : List Entry) → StandsAt backend log desk → NoneIsBad log
