-- Lists of events with their replies.
use Rattle.std.proofs.Common.{◌≡◌, ℕ, ◌+◌, List, [], ◌∷◌, ◌++◌, map, length, refl, sym, ap, ◌∙◌, subst, length-append, arith}
use Rattle.std.specs.List.{zip}
use Rattle.lb_desk_model.specs.declared.entry.Entry.{Entry}
use Rattle.lb_desk_model.specs.declared.event.Event.{Event}
use Rattle.lb_desk_model.specs.declared.reply.Reply.{Reply}
use Rattle.lb_desk_model.specs.Backends.{BackendParts}
use Rattle.lb_desk_law.specs.Worlds.{entry}
use Rattle.lb_desk_seen.proofs.Logged.{headline_of_a_log}
use Rattle.lb_desk_step.specs.Desk.{DeskView, StandsAt, Takes}
use Rattle.lb_desk_step.specs.Worlds.{Answers, entries_of}

-- one event more
pub entries_push : (events : List Event) (replies : List Reply) (event : Event) (reply : Reply) → length replies ≡ length events
    → entries_of (events ++ event ∷ []) (replies ++ reply ∷ []) ≡ entries_of events replies ++ entry event reply ∷ []
entries_push [] [] event reply many = refl
entries_push [] (r ∷ replies) event reply many = absurd (omega arith)
entries_push (e ∷ events) [] event reply many = absurd (omega arith)
entries_push (e ∷ events) (r ∷ replies) event reply many =
    ap (λ (es : List Entry). entry e r ∷ es) (entries_push events replies event reply (omega arith))

-- a desk that stands at the end of these
pub answers_of : (backend : BackendParts) (events : List Event) (replies : List Reply) (desk : DeskView) → length replies ≡ length events
    → StandsAt backend (entries_of events replies) desk → Answers backend events replies
answers_of backend events replies desk many at = record {
  as_many = many;
  end = at.reaches.state;
  history = at.reaches.history;
  headline = headline_of_a_log backend (entries_of events replies) at.reaches.state at.reaches.history;
}

pub stands_at_more : (backend : BackendParts) (events : List Event) (replies replied : List Reply) (old : DeskView) (event : Event) (reply : Reply) (new : DeskView)
    → length replies ≡ length events → StandsAt backend (entries_of events replies) old → replied ≡ replies ++ reply ∷ []
    → Takes old event reply new
    → (length replied ≡ length (events ++ event ∷ [])) × StandsAt backend (entries_of (events ++ event ∷ []) replied) new
stands_at_more backend events replies replied old event reply new many at e takes =
    let as_many : length replied ≡ length (events ++ event ∷ []) =
    ap length e ∙ (length-append replies (reply ∷ []) ∙ (ap (λ (n : ℕ). n + 1) many ∙ sym (length-append events (event ∷ [])))) in
    let log : entries_of (events ++ event ∷ []) replied ≡ entries_of events replies ++ entry event reply ∷ [] =
    ap (entries_of (events ++ event ∷ [])) e ∙ entries_push events replies event reply many in
    (as_many, subst (λ (es : List Entry). StandsAt backend es new) (sym log) (takes.log backend (entries_of events replies) at))
