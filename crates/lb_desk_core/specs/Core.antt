-- What the core of a running desk is: what it shows, and how often it was used through a pin.
use Rattle.std.specs.Prelude.{ℕ, List}
use Rattle.lb_desk_model.specs.declared.entry.Entry.{Entry}
use Rattle.lb_desk_model.specs.Backends.{BackendParts, IsBackend}
use Rattle.lb_desk_model.specs.Seen.{Seen}
use Rattle.lb_desk_seen.specs.Reached.{Reaches}

pub record CoreView : Type 0 where
  pub shown : Seen
  -- how many requests were served through a pin
  pub uses : ℕ

-- a log of some lawful backend leads to a state that shows this
pub record IsReached (shown : Seen) : Type 0 where
  pub backend : BackendParts
  pub lawful : IsBackend backend
  pub log : List Entry
  pub reaches : Reaches backend log shown
