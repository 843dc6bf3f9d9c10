-- What a core does with an event before a desk journals it. No public clause cites this module.
use Rattle.std.specs.Prelude.{◌≡◌, ℕ, ◌+◌, ◌<◌, ◌^◌}
use Rattle.lb_desk_model.specs.declared.event.Event.{Event}
use Rattle.lb_desk_model.specs.declared.event.Event.TheVariants.{Open, Close}
use Rattle.lb_desk_model.specs.declared.reply.Reply.{Reply}
use Rattle.lb_desk_model.specs.Seen.{Seen}
use Rattle.lb_desk_model.specs.Worn.{open_connections}
use Rattle.lb_desk_core.specs.Core.{CoreView}
use Rattle.lb_desk_servers.specs.Shown.{closed, opened}

-- the numbers of a core that an event may count further can be; the end of a connection counts none further
abbrev pub CanCount : CoreView → Event → Type 0
CanCount core (Close server) = Unit {0}
CanCount core event = (core.shown.version < 2 ^ 63) × (core.uses < 2 ^ 63) × (open_connections core.shown < 2 ^ 63)

-- how many connections the event opens with this reply
abbrev pub opened_by : Event → Reply → ℕ
opened_by (Open server) reply = opened reply
opened_by event reply = 0

-- how many it ends
abbrev pub closed_by : Event → Reply → ℕ
closed_by (Close server) reply = closed reply
closed_by event reply = 0

-- so many connections are open behind the event
abbrev pub Connects : Seen → Event → Reply → Seen → Type 0
Connects old event reply new = open_connections new + closed_by event reply ≡ open_connections old + opened_by event reply
