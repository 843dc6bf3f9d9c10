-- What a running desk shows of a log, and how it goes on.
use Rattle.std.specs.Prelude.{◌≡◌, List, [], ◌∷◌, ◌++◌}
use Rattle.pin_set.specs.Views.{IsView}
use Rattle.lb_desk_model.specs.declared.entry.Entry.{Entry}
use Rattle.lb_desk_model.specs.declared.event.Event.{Event}
use Rattle.lb_desk_model.specs.declared.reply.Reply.{Reply}
use Rattle.lb_desk_model.specs.Backends.{BackendParts, IsBackend}
use Rattle.lb_desk_model.specs.Histories.{History}
use Rattle.lb_desk_model.specs.Seen.{Seen, Steps, seen, view_seen}
use Rattle.lb_desk_model.specs.States.{State, opening}
use Rattle.lb_desk_law.specs.Worlds.{entry}

-- the log leads from the backend's opening to a state that shows this
pub record Reaches (backend : BackendParts) (log : List Entry) (shown : Seen) : Type 0 where
  pub state : State
  pub history : History (opening backend) log state
  pub is : seen state ≡ shown

-- no entry leads to what the opening shows
abbrev pub OpeningIsShown : Type 0
OpeningIsShown = (backend : BackendParts) → Reaches backend [] (seen (opening backend))

-- where the event is a step of each state that is shown, the log with its entry leads to what is shown then
abbrev pub StepsAreShown : Type 0
StepsAreShown = (backend : BackendParts) (log : List Entry) (old : Seen) (event : Event) (reply : Reply) (new : Seen)
    → Reaches backend log old → Steps old event reply new → Reaches backend (log ++ entry event reply ∷ []) new

-- what any desk of a lawful backend shows has a lawful view
abbrev pub ShownViewsAreLawful : Type 0
ShownViewsAreLawful = (backend : BackendParts) (log : List Entry) (shown : Seen)
    → IsBackend backend → Reaches backend log shown → IsView (view_seen shown)
