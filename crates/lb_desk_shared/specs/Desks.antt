-- The desk of a backend as many threads use it. Its history is the list of all entries so far. Our own words.
use Rattle.std.specs.Prelude.{◌≡◌, ℕ, true, List}
use Rattle.lb_desk_model.specs.declared.entry.Entry.{Entry}
use Rattle.lb_desk_model.specs.Backends.{BackendParts}
use Rattle.lb_desk_shared.specs.declared.journal_copy.JournalCopy.{JournalCopy}
use Rattle.lb_desk_step.specs.Desk.{DeskView, StandsAt}
use Rattle.lb_desk_tail.specs.Tail.{TailView}
use Rattle.lb_desk_tie.specs.Receipts.{Each, KeeperView, PassView, StandsIn, rises, with_sight}

-- what lies under the lock: a desk, and the keeper of its receipts
pub record TiedView : Type 0 where
  pub desk : DeskView
  pub keeper : KeeperView Entry

-- some history of the backend, from its opening on, has all of the receipts and leads to this desk
pub record IsReached (backend : BackendParts) (receipts : List (ℕ × Entry)) (desk : DeskView) : Type 0 where
  pub history : List Entry
  pub stands : StandsAt backend history desk
  -- each receipt's entry stands at its number, and a later receipt has a greater one
  pub stand : Each (StandsIn history) receipts
  pub rise : rises receipts ≡ true

-- the copy has what the journal keeps, which is at most so many entries
pub record IsCopyOf (size : ℕ) (journal : TailView Entry) (copy : JournalCopy) : Type 0 where
  pub capacity : journal.capacity ≡ size
  pub first : copy.first ≡ journal.first
  pub entries : copy.entries.items ≡ journal.entries

-- the pass has one sight more, of the history that leads to this desk, and its receipts are in that history
pub record SeesDesk (backend : BackendParts) (old : PassView Entry) (desk : DeskView) (new : PassView Entry) : Type 0 where
  pub reached : IsReached backend old.receipts desk
  pub sight : new ≡ with_sight old reached.history
  -- so it is still a pass of the same desk
  pub keeper : new.keeper ≡ old.keeper

-- the pass has one sight more, and this is true of the desk that it saw
abbrev pub Sees : BackendParts → PassView Entry → (DeskView → Type 0) → PassView Entry → Type 0
Sees backend old Is new = (desk : DeskView) × SeesDesk backend old desk new × Is desk
