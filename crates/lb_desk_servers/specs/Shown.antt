-- What an event at the servers is to a running desk, which keeps them as a farm (what is set for each, and its health) and a
-- book (its pins and its open connections): a step of each state that the desk shows, whatever else it shows. Our own; what the
-- events do is defined in lb_desk_model.
use Rattle.std.specs.Prelude.{◌≡◌, ℕ, ◌+◌, Bool, if◌then◌else◌}
use Rattle.server_state.specs.Farm.{FarmView}
use Rattle.capacity_book.specs.Book.{BookView}
use Rattle.lb_desk_model.specs.declared.event.Event.{Event}
use Rattle.lb_desk_model.specs.declared.reply.Reply.{Reply}
use Rattle.lb_desk_model.specs.declared.reply.Reply.TheVariants.{Opened, Closed}
use Rattle.lb_desk_model.specs.Seen.{Seen, Steps}
use Rattle.lb_desk_servers.specs.declared.outcome.Outcome.{Outcome}

-- the version grows by one where an event changes the view
abbrev pub counted : ℕ → Bool → ℕ
counted version changes_view = if changes_view then version + 1 else version

-- Whatever is shown beside this farm, the event is a step with this reply, behind which the new farm is shown and the version
-- that is counted, and all else as before
abbrev pub StepsAtFarm : FarmView → Event → Outcome → FarmView → Type 0
StepsAtFarm old event outcome new = (shown : Seen) → shown.farm ≡ old
    → Steps shown event outcome.reply (record shown { farm = new; version = counted shown.version outcome.changes_view })

-- Whatever is shown beside this farm and the connections of this book, the event is a step with this reply, behind which the
-- connections of the new book are shown, and all else as before
abbrev pub StepsAtBook : FarmView → BookView → Event → Reply → BookView → Type 0
StepsAtBook farm old event reply new = (shown : Seen) → shown.farm ≡ farm → shown.connections ≡ old.connections
    → Steps shown event reply (record shown { connections = new.connections })

-- how many connections are opened, where this is replied
abbrev pub opened : Reply → ℕ
opened Opened = 1
opened reply = 0

-- how many are closed
abbrev pub closed : Reply → ℕ
closed Closed = 1
closed reply = 0
