use Rattle.std.proofs.Common.{◌≡◌, sym, subst}
use Rattle.lb_desk_model.specs.declared.event.Event.TheVariants.{Clear}
use Rattle.lb_desk_model.specs.Seen.{Seen, Steps}
use Rattle.lb_desk_core.specs.Acting.{ActsOn}
use Rattle.lb_desk_core.specs.Parts.{shown_of}
use Rattle.lb_desk_core.proofs.Reached.{reached_further}
use Rattle.lb_desk_core.proofs.SetPins.{cleared_parts}
use Rattle.lb_desk_core.proofs.backend_core.Core.clear.Goals as goal

pub returns-clause-steps : goal.returns-clause-steps
returns-clause-steps g c =
    let p = c.self-inside.inside.0.0 in
    let old = c.self.inside.parts.shown in
    let name = c.args.name.now in
    let reply = c.clear-reply.result in
    let opened = sym c.self-inside.view_is in
    let same : c.clear-reply.new.self.shown ≡ shown_of p.balance p.settings p.names.items p.farm p.book p.table p.cursor p.latest = λ i. (opened i).parts.shown in
    let acts = subst (λ (s : Seen). ActsOn old (Clear name) reply s) same c.clear-reply.ensures.acts in
    let whole = c.self.view_is in
    let is : old ≡ c.args.self.now.shown = λ i. (whole i).shown in
    subst (λ (s : Seen). Steps s (Clear name) reply (shown_of p.balance p.settings p.names.items p.farm p.book c.count.new.table p.cursor p.latest)) is
    (cleared_parts p.balance p.settings p.names.items p.farm p.book p.table c.count.new.table p.cursor p.latest old reply c.moves_pin.result
    c.moves_pin.ensures c.count.ensures name c.self.invariant acts)

pub invariant_of-self : goal.invariant_of-self
invariant_of-self g c =
    let p = c.self-inside.inside.0.0 in
    let old = c.self.inside.parts.shown in
    let name = c.args.name.now in
    let reply = c.clear-reply.result in
    let opened = sym c.self-inside.view_is in
    let same : c.clear-reply.new.self.shown ≡ shown_of p.balance p.settings p.names.items p.farm p.book p.table p.cursor p.latest = λ i. (opened i).parts.shown in
    let acts = subst (λ (s : Seen). ActsOn old (Clear name) reply s) same c.clear-reply.ensures.acts in
    reached_further old (Clear name) reply (shown_of p.balance p.settings p.names.items p.farm p.book c.count.new.table p.cursor p.latest) c.self.invariant
    (cleared_parts p.balance p.settings p.names.items p.farm p.book p.table c.count.new.table p.cursor p.latest old reply c.moves_pin.result
    c.moves_pin.ensures c.count.ensures name c.self.invariant acts)
