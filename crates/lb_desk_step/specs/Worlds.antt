-- Lists of events that a backend takes one after another from its opening on.
use Rattle.std.specs.Prelude.{◌≡◌, List, ◌∷◌, ◌++◌, map, length}
use Rattle.std.specs.List.{zip}
use Rattle.dual_cert_plan.specs.Plans.{PlanParts}
use Rattle.lb_desk_model.specs.declared.entry.Entry.{Entry}
use Rattle.lb_desk_model.specs.declared.event.Event.{Event}
use Rattle.lb_desk_model.specs.declared.event.Event.TheVariants.{Install}
use Rattle.lb_desk_model.specs.declared.reply.Reply.{Reply}
use Rattle.lb_desk_model.specs.Backends.{BackendParts}
use Rattle.lb_desk_model.specs.Histories.{History}
use Rattle.lb_desk_model.specs.States.{State, opening}
use Rattle.lb_desk_law.specs.Worlds.{entry}
use Rattle.lb_desk_seen.specs.Logs.{Headline}

-- each event with its reply
abbrev pub entries_of : List Event → List Reply → List Entry
entries_of events replies = map (λ m. entry m.0 m.1) (zip events replies)

-- the backend, from its opening on, gives these replies to the events, one to each
pub record Answers (backend : BackendParts) (events : List Event) (replies : List Reply) : Type 0 where
  pub as_many : length replies ≡ length events
  pub end : State
  pub history : History (opening backend) (entries_of events replies) end
  -- and each install among them is stale exactly where the view had changed, or refused as the check refuses it, or best
  pub headline : (early late : List Entry) (plan : PlanParts) (reply : Reply)
      → entries_of events replies ≡ early ++ entry (Install plan) reply ∷ late → Headline backend early plan reply late end
