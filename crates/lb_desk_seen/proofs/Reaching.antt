-- How a running desk goes on along a log.
use Rattle.std.proofs.Common.{◌≡◌, [], ◌∷◌, refl, ap, ◌∙◌, subst}
use Rattle.pin_set.specs.Views.{ViewParts, IsView}
use Rattle.lb_desk_model.specs.Seen.{view_seen}
use Rattle.lb_desk_model.specs.States.{opening, view_of}
use Rattle.lb_desk_law.specs.Worlds.{entry}
use Rattle.lb_desk_law.proofs.Lawful.{views_are_lawful}
use Rattle.lb_desk_law.proofs.Parts.{joined}
use Rattle.lb_desk_seen.specs.Reached.{OpeningIsShown, StepsAreShown, ShownViewsAreLawful}
use Rattle.lb_desk_seen.proofs.Changed.{views_are_seen}

pub opening_is_shown : OpeningIsShown
opening_is_shown backend = record { state = opening backend; history = refl; is = refl }

pub steps_are_shown : StepsAreShown
steps_are_shown backend log old event reply new r steps =
    let after = steps r.state r.is in
    record {
      state = after.next;
      history = joined log (entry event reply ∷ []) (opening backend) r.state after.next r.history (after.next, after.step, refl);
      is = after.shown;
    }

pub shown_views_are_lawful : ShownViewsAreLawful
shown_views_are_lawful backend log shown lawful r =
    let is : view_of r.state ≡ view_seen shown = views_are_seen r.state ∙ ap view_seen r.is in
    subst (λ (v : ViewParts). IsView v) is (views_are_lawful backend log r.state lawful r.history)
