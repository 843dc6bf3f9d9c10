use Rattle.std.proofs.Common.{[], ◌∷◌, ◌++◌, map, sym, ap, ◌∙◌, rules, map-id}
use Rattle.std.proofs.lemmas.Iterator.Adapters.{YieldsList-from_vec}
use Rattle.std.proofs.lemmas.Iterator.Consumers.{YieldsList-end}
use Rattle.std.proofs.lemmas.List.{map_push}
use Rattle.lb_config_rules.specs.Resolved.{pin_cost_by}
use Rattle.lb_config_rules.proofs.resolving.pin_costs.Goals as goal

pub loop-rule-preserved : goal.loop-rule-preserved
loop-rule-preserved c =
    let l = c.loop-rule in
    c.in_ok-push.ensures.items ∙ ap (λ one. l.costs.items ++ one ∷ []) c.in_ok-cost.ensures
    ∙ ap (λ front. front ++ pin_cost_by c.args.acls.now c.in-Some.rule ∷ []) l.invariant ∙ sym (map_push (pin_cost_by c.args.acls.now) l.yielded c.in-Some.rule)

pub returns : goal.returns
returns c =
    let end = YieldsList-end (YieldsList-from_vec {s = c.into_iter-rule-iterator.result} c.args.rules.items (search rules) (search rules))
    c.loop-rule.yielded c.loop-rule.rule-iterator c.loop-rule.yielded_by c.next.result c.next.new.self c.in-None.is c.next.ensures.steps in
    c.loop-rule.invariant ∙ ap (λ all. map (pin_cost_by c.args.acls.now) all) (sym (map-id c.loop-rule.yielded) ∙ end.0)
