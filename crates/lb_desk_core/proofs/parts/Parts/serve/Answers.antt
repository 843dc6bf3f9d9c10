use Rattle.std.proofs.Common.{◌≡◌, false, not, Option, Some, None, IfOk, is_some, true≢false, refl, sym, ap, ◌∙◌, subst}
use Rattle.pin_set.specs.declared.pin_key.PinKey.{PinKey}
use Rattle.lb_types.specs.declared.table_settings.TableSettings.{TableSettings}
use Rattle.lb_desk_model.specs.declared.event.Event.TheVariants.{Serve}
use Rattle.lb_desk_model.specs.declared.event.Request.{Request}
use Rattle.lb_desk_core.specs.Acting.{ActsOn}
use Rattle.lb_desk_core.specs.Core.{CoreView}
use Rattle.lb_desk_core.specs.Requests.{with_key}
use Rattle.lb_desk_core.proofs.Requests.{loose_without_key, loose_without_table, same_request}
use Rattle.lb_desk_core.proofs.parts.Parts.serve.Goals as goal

none_of : (o : Option TableSettings) → is_some o ≡ false → o ≡ None
none_of None e = refl
none_of (Some t) e = absurd (true≢false e)

pub returns-then-is_none-clause-acts : goal.returns-then-is_none-clause-acts
returns-then-is_none-clause-acts g c =
    let shown = c.args.self.now.shown in
    let request = c.args.request.now in
    let none : shown.table ≡ None =
    sym (ap (λ (v : CoreView). v.shown.table) c.self.view_is) ∙ none_of c.self.inside.settings (c.is_none.ensures ∙ ap not c.if-is_none.true) in
    c.serve_loose.ensures.acts request.key (loose_without_table shown request none)

pub returns-in_default-clause-acts : goal.returns-in_default-clause-acts
returns-in_default-clause-acts g c =
    let shown = c.args.self.now.shown in
    let request = c.args.request.now in
    let result = c.serve_loose-in_default.result in
    let new = c.serve_loose-in_default.new.self.shown in
    let none : request.key ≡ None = sym c.take.ensures.value ∙ c.in_default.is in
    let acts = same_request (λ (r : Request). ActsOn shown (Serve r) result new) None request.rules request.cost request.moment _ request.cost_from _ request.cost_to
    (c.serve_loose-in_default.ensures.acts None (loose_without_key shown request)) in
    subst (λ (key : Option PinKey). ActsOn shown (Serve (with_key request key)) result new) (sym none) acts

pub returns-clause-acts : goal.returns-clause-acts
returns-clause-acts g c =
    let shown = c.args.self.now.shown in
    let request = c.args.request.now in
    let result = c.serve_named-reply.result in
    let new = c.serve_named-reply.new.self.shown in
    let some : request.key ≡ Some c.in-Some.key = sym c.take.ensures.value ∙ c.in-Some.is in
    let acts = same_request (λ (r : Request). IfOk result (λ reply. ActsOn shown (Serve r) reply new)) (Some c.in-Some.key) request.rules request.cost request.moment
    _ request.cost_from _ request.cost_to c.serve_named-reply.ensures.acts in
    subst (λ (key : Option PinKey). IfOk result (λ reply. ActsOn shown (Serve (with_key request key)) reply new)) (sym some) acts
