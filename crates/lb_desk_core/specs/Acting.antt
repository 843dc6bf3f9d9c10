-- What an event does to the states that a core shows. No public clause cites this module.
use Rattle.std.specs.Prelude.{◌≡◌}
use Rattle.lb_desk_model.specs.declared.event.Event.{Event}
use Rattle.lb_desk_model.specs.declared.reply.Reply.{Reply}
use Rattle.lb_desk_model.specs.Seen.{Seen, Acts, seen}
use Rattle.lb_desk_model.specs.States.{State}

-- at every state that is shown
abbrev pub ForEach : Seen → (State → Type 0) → Type 0
ForEach shown P = (state : State) → seen state ≡ shown → P state

-- whichever state is shown, the event does something to it with this reply, and leaves what shows the new one. The version isn't
-- counted yet
abbrev pub ActsOn : Seen → Event → Reply → Seen → Type 0
ActsOn old event reply new = ForEach old (λ state. Acts state event reply new)
