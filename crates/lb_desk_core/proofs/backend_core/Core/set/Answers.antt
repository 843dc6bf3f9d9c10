use Rattle.std.proofs.Common.{◌≡◌, sym, subst}
use Rattle.lb_desk_model.specs.declared.event.Event.TheVariants.{Set}
use Rattle.lb_desk_model.specs.Seen.{Seen, Steps}
use Rattle.lb_desk_core.specs.Acting.{ActsOn}
use Rattle.lb_desk_core.specs.Parts.{shown_of}
use Rattle.lb_desk_core.proofs.Reached.{reached_further}
use Rattle.lb_desk_core.proofs.SetPins.{set_parts}
use Rattle.lb_desk_core.proofs.backend_core.Core.set.Goals as goal

pub invariant_of-self-2 : goal.invariant_of-self-2
invariant_of-self-2 g c =
    let p = c.self-inside.inside.0.0 in
    let old = c.self.inside.parts.shown in
    let set = c.args.set.now in
    let reply = c.in_ok-reply.reply in
    let opened = sym c.self-inside.view_is in
    let same : c.set.new.self.shown ≡ shown_of p.balance p.settings p.names.items p.farm p.book p.table p.cursor p.latest = λ i. (opened i).parts.shown in
    let acts = subst (λ (s : Seen). ActsOn old (Set set) reply s) same c.in_ok-reply.ensures.acts in
    reached_further old (Set set) reply (shown_of p.balance p.settings p.names.items p.farm p.book c.count.new.table p.cursor p.latest) c.self.invariant
    (set_parts p.balance p.settings p.names.items p.farm p.book p.table c.count.new.table p.cursor p.latest old reply c.moves_pin.result
    c.moves_pin.ensures c.count.ensures set c.self.invariant acts)

pub returns-clause-steps : goal.returns-clause-steps
returns-clause-steps g c =
    let p = c.self-inside.inside.0.0 in
    let old = c.self.inside.parts.shown in
    let set = c.args.set.now in
    let reply = c.in_ok-reply.reply in
    let opened = sym c.self-inside.view_is in
    let same : c.set.new.self.shown ≡ shown_of p.balance p.settings p.names.items p.farm p.book p.table p.cursor p.latest = λ i. (opened i).parts.shown in
    let acts = subst (λ (s : Seen). ActsOn old (Set set) reply s) same c.in_ok-reply.ensures.acts in
    let whole = c.self.view_is in
    let is : old ≡ c.args.self.now.shown = λ i. (whole i).shown in
    subst (λ (s : Seen). Steps s (Set set) reply (shown_of p.balance p.settings p.names.items p.farm p.book c.count.new.table p.cursor p.latest)) is
    (set_parts p.balance p.settings p.names.items p.farm p.book p.table c.count.new.table p.cursor p.latest old reply c.moves_pin.result
    c.moves_pin.ensures c.count.ensures set c.self.invariant acts)
