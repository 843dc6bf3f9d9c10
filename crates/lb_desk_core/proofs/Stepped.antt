-- From what an event does to all states that are shown, to a step of each, with the version counted.
use Rattle.std.proofs.Common.{◌≡◌, ◌+◌, sym, ap, subst}
use Rattle.server_state.specs.Farm.{FarmView}
use Rattle.lb_desk_model.specs.declared.event.Event.{Event}
use Rattle.lb_desk_model.specs.declared.reply.Reply.{Reply}
use Rattle.lb_desk_model.specs.Seen.{Seen, Steps, view_seen}
use Rattle.lb_desk_model.specs.States.{SameView, farm_of}
use Rattle.lb_desk_seen.specs.Replies.{KeepsView}
use Rattle.lb_desk_seen.proofs.Changed.{acts_are_counted}
use Rattle.lb_desk_seen.proofs.Replied.{replies_tell_views}
use Rattle.lb_desk_core.specs.Acting.{ActsOn}
use Rattle.lb_desk_core.specs.Core.{IsReached}

abbrev Same : Seen → Seen → Type 0
Same old new = SameView (view_seen old) (view_seen new)

-- the reply tells whether the view that is shown stays
told : (old new : Seen) (event : Event) (reply : Reply) → IsReached old → ActsOn old event reply new
    → (KeepsView old.farm event reply new.farm → Same old new) × (Same old new → KeepsView old.farm event reply new.farm)
told old new event reply r acts =
    let at = r.reaches in
    let tells = replies_tell_views r.backend r.log at.state event reply new at.history (acts at.state at.is) in
    let farms : farm_of at.state ≡ old.farm = ap (λ (s : Seen). s.farm) at.is in (
      λ keeps. subst (λ (s : Seen). Same s new) at.is (tells.1 (subst (λ (f : FarmView). KeepsView f event reply new.farm) (sym farms) keeps)),
      λ same. subst (λ (f : FarmView). KeepsView f event reply new.farm) farms (tells.0 (subst (λ (s : Seen). Same s new) (sym at.is) same)),
    )

-- the view stays, and so does the version
pub steps_same : (old new : Seen) (event : Event) (reply : Reply) → IsReached old → ActsOn old event reply new
    → KeepsView old.farm event reply new.farm → Steps old event reply new
steps_same old new event reply r acts keeps state is =
    let same : Same old new = (told old new event reply r acts).0 keeps in
    (acts_are_counted state event reply new (acts state is)).0 (subst (λ (s : Seen). Same s new) (sym is) same)

-- the view changes, and the version is one more
pub steps_more : (old new : Seen) (event : Event) (reply : Reply) → IsReached old → ActsOn old event reply new
    → (KeepsView old.farm event reply new.farm → ⊥) → Steps old event reply (record new { version = new.version + 1 })
steps_more old new event reply r acts changes state is =
    let differ : Same old new → ⊥ = λ same. changes ((told old new event reply r acts).1 same) in
    (acts_are_counted state event reply new (acts state is)).1 (λ same. differ (subst (λ (s : Seen). Same s new) is same))
