use Rattle.std.proofs.Common.{◌≡◌, ℕ, Some, max, refl, sym, ap, ◌∙◌, subst}
use Rattle.lb_desk_model.specs.declared.event.Event.TheVariants.{Serve}
use Rattle.lb_desk_model.specs.declared.event.Request.{Request}
use Rattle.lb_desk_model.specs.declared.reply.Reply.TheVariants.{Served}
use Rattle.lb_desk_model.specs.declared.reply.ServedAs.TheVariants.{Loose}
use Rattle.lb_desk_model.specs.Picks.{Picked, picked}
use Rattle.lb_desk_model.specs.Seen.{Seen}
use Rattle.lb_desk_model.specs.Serves.{IsLoose, loose_pick}
use Rattle.lb_desk_core.specs.Acting.{ActsOn, ForEach}
use Rattle.lb_desk_core.specs.Core.{CoreView}
use Rattle.lb_desk_core.specs.Parts.{shown_of}
use Rattle.lb_desk_core.specs.Requests.{AreKnown, with_key}
use Rattle.lb_desk_core.proofs.Requests.{is_seen, loose_on}
use Rattle.lb_desk_core.proofs.parts.Parts.serve_loose.Goals as goal

pub returns-clause-acts : goal.returns-clause-acts
returns-clause-acts g c = λ key loose.
    let p = c.self.inside in
    let old : Seen = shown_of p.balance p.settings p.names.items p.farm p.book p.table p.cursor p.latest in
    let request : Request = with_key c.args.request.now key in
    let server = c.pick.inside.server in
    let cursor = c.pick.inside.cursor in
    let now = c.moment_of-self-inside.result in
    let is = sym c.self.view_is in
    let known = subst (λ (v : CoreView). AreKnown v.shown request.rules) is c.requires in
    let late = subst (λ (v : CoreView). now ≡ max v.shown.latest request.moment) is c.moment_of-self-inside.ensures in
    let loose_then = subst (λ (v : CoreView). ForEach v.shown (λ state. IsLoose state request)) is loose in
    let pick : ForEach old (λ state. loose_pick state request ≡ Some (picked cursor server)) =
    λ state shown. sym (c.loose_pick-pick.ensures state request (is_seen state old p.book shown refl c.self.invariant.loads) (sym c.servers-rules.ensures))
    ∙ (c.in-Some.is ∙ ap (λ (q : Picked). Some q) (sym c.pick.view_is)) in
    let acts = loose_on old request cursor server known loose_then pick in
    let new : record old { cursor = cursor; latest = max old.latest request.moment } ≡ shown_of p.balance p.settings p.names.items p.farm p.book p.table cursor now =
    ap (λ (m : ℕ). shown_of p.balance p.settings p.names.items p.farm p.book p.table cursor m) (sym late) in
    subst (λ (v : CoreView). ActsOn v.shown (Serve request) (Served server Loose) (shown_of p.balance p.settings p.names.items p.farm p.book p.table cursor now)) c.self.view_is
    (subst (λ (s : Seen). ActsOn old (Serve request) (Served server Loose) s) new acts)
