use Rattle.std.proofs.Common.{◌≡◌, sym, subst}
use Rattle.lb_desk_model.specs.declared.event.Event.TheVariants.{Serve}
use Rattle.lb_desk_model.specs.Seen.{Seen, Steps}
use Rattle.lb_desk_core.specs.Acting.{ActsOn}
use Rattle.lb_desk_core.specs.Parts.{shown_of}
use Rattle.lb_desk_core.proofs.Reached.{reached_further}
use Rattle.lb_desk_core.proofs.Served.{served_parts}
use Rattle.lb_desk_core.proofs.backend_core.Core.serve.Goals as goal

pub invariant_of-self-2 : goal.invariant_of-self-2
invariant_of-self-2 g c =
    let p = c.self-inside.inside.0.0 in
    let old = c.self.inside.parts.shown in
    let request = c.args.request.now in
    let reply = c.in_ok-reply.reply in
    let opened = sym c.self-inside.view_is in
    let same : c.serve.new.self.shown ≡ shown_of p.balance p.settings p.names.items p.farm p.book p.table p.cursor p.latest = λ i. (opened i).parts.shown in
    let acts = subst (λ (s : Seen). ActsOn old (Serve request) reply s) same c.in_ok-reply.ensures.acts in
    reached_further old (Serve request) reply (shown_of p.balance p.settings p.names.items p.farm p.book c.count.new.table p.cursor p.latest) c.self.invariant
    (served_parts p.balance p.settings p.names.items p.farm p.book p.table c.count.new.table p.cursor p.latest old request reply c.moves_pin.result
    c.self.invariant acts c.moves_pin.ensures c.count.ensures)

pub returns-clause-steps : goal.returns-clause-steps
returns-clause-steps g c =
    let p = c.self-inside.inside.0.0 in
    let old = c.self.inside.parts.shown in
    let request = c.args.request.now in
    let reply = c.in_ok-reply.reply in
    let opened = sym c.self-inside.view_is in
    let same : c.serve.new.self.shown ≡ shown_of p.balance p.settings p.names.items p.farm p.book p.table p.cursor p.latest = λ i. (opened i).parts.shown in
    let acts = subst (λ (s : Seen). ActsOn old (Serve request) reply s) same c.in_ok-reply.ensures.acts in
    let whole = c.self.view_is in
    let is : old ≡ c.args.self.now.shown = λ i. (whole i).shown in
    subst (λ (s : Seen). Steps s (Serve request) reply (shown_of p.balance p.settings p.names.items p.farm p.book c.count.new.table p.cursor p.latest)) is
    (served_parts p.balance p.settings p.names.items p.farm p.book p.table c.count.new.table p.cursor p.latest old request reply c.moves_pin.result
    c.self.invariant acts c.moves_pin.ensures c.count.ensures)
