-- The headline, said of a log: of all entries since the opening of a backend.
use Rattle.std.specs.Prelude.{◌≡◌, List, ◌∷◌, ◌++◌}
use Rattle.dual_cert_plan.specs.Plans.{PlanParts}
use Rattle.lb_desk_model.specs.declared.entry.Entry.{Entry}
use Rattle.lb_desk_model.specs.declared.event.Event.TheVariants.{Install}
use Rattle.lb_desk_model.specs.declared.reply.Reply.{Reply}
use Rattle.lb_desk_model.specs.Backends.{BackendParts}
use Rattle.lb_desk_model.specs.Histories.{History}
use Rattle.lb_desk_model.specs.States.{State, opening}
use Rattle.lb_desk_model.specs.Steps.{Step}
use Rattle.lb_desk_law.specs.Headline.{IsStaleExactly, IsStaleOnceChanged, KeepsPins, IsLawfulThen, IsBestThen, IsBadExactly}
use Rattle.lb_desk_law.specs.Worlds.{entry}

-- ---- one install

-- It is stale exactly where the plan has another version than the table, and then changes nothing; else it is refused exactly
-- as the check refuses it; else each pin is kept, and the new places are lawful and best
pub record IsStaleOrBest (old : State) (plan : PlanParts) (reply : Reply) (new : State) : Type 0 where
  pub stale : IsStaleExactly old plan reply new
  pub kept : KeepsPins old plan reply new
  pub lawful : IsLawfulThen old plan reply new
  pub best : IsBestThen old plan reply new
  pub bad : IsBadExactly old plan reply new

-- the states before and after an install of a log: the entries before it lead to the one, those behind it from the other to the end
pub record StatesAround (backend : BackendParts) (early : List Entry) (plan : PlanParts) (reply : Reply) (late : List Entry) (end : State) : Type 0 where
  pub old : State
  pub new : State
  pub before : History (opening backend) early old
  pub step : Step old (Install plan) reply new
  pub after : History new late end

-- for each point of the log before the install that had the plan's version: stale exactly where some step since then changed the view
abbrev pub IsStaleSince : BackendParts → List Entry → State → PlanParts → Reply → Type 0
IsStaleSince backend early old plan reply = (first since : List Entry) (point : State) → early ≡ first ++ since
    → History (opening backend) first point → (between : History point since old) → IsStaleOnceChanged point since old between plan reply

-- there are such states, and of any of them all of this holds
pub record Headline (backend : BackendParts) (early : List Entry) (plan : PlanParts) (reply : Reply) (late : List Entry) (end : State) : Type 0 where
  pub around : StatesAround backend early plan reply late end
  pub promised : (at : StatesAround backend early plan reply late end) → IsStaleOrBest at.old plan reply at.new
  pub since : (at : StatesAround backend early plan reply late end) → IsStaleSince backend early at.old plan reply

-- ---- each install of a log

-- the log, whichever it is, cut in each way at an entry that is an install
abbrev pub HeadlineOfALog : Type 0
HeadlineOfALog = (backend : BackendParts) (log : List Entry) (end : State) → History (opening backend) log end
    → (early late : List Entry) (plan : PlanParts) (reply : Reply) → log ≡ early ++ entry (Install plan) reply ∷ late
    → Headline backend early plan reply late end
