use Rattle.std.proofs.Common.{[], ◌∷◌, ◌++◌, map, sym, ap, ◌∙◌, rules, map-id}
use Rattle.std.proofs.lemmas.Iterator.Adapters.{YieldsList-from_vec}
use Rattle.std.proofs.lemmas.Iterator.Consumers.{YieldsList-end}
use Rattle.std.proofs.lemmas.List.{map_push}
use Rattle.lb_config_rules.specs.Groups.{terms_by}
use Rattle.lb_config_rules.proofs.conds.resolved.Goals as goal

pub loop-alternative-preserved : goal.loop-alternative-preserved
loop-alternative-preserved c =
    let l = c.loop-alternative in
    c.in_ok-push.ensures.items ∙ ap (λ one. l.alternatives.items ++ one ∷ []) c.in_ok-terms.ensures
    ∙ ap (λ front. front ++ terms_by c.args.acls.now c.in-Some.alternative ∷ []) l.invariant ∙ sym (map_push (terms_by c.args.acls.now) l.yielded c.in-Some.alternative)

pub returns : goal.returns
returns c =
    let end = YieldsList-end (YieldsList-from_vec {s = c.into_iter-alternative-iterator.result} c.into_alternatives-alternative-items.result.items (search rules) (search rules))
    c.loop-alternative.yielded c.loop-alternative.alternative-iterator c.loop-alternative.yielded_by c.next.result c.next.new.self c.in-None.is c.next.ensures.steps in
    let all = c.loop-alternative.invariant ∙ ap (λ all. map (terms_by c.args.acls.now) all) (sym (map-id c.loop-alternative.yielded) ∙ end.0 ∙ c.into_alternatives-alternative-items.ensures) in
    c.new.ensures ∙ ap (λ alternatives. record { polarity = c.polarity-polarity.result; alternatives = alternatives }) all
    ∙ ap (λ polarity. record { polarity = polarity; alternatives = map (terms_by c.args.acls.now) c.args.cond.alternatives }) c.polarity-polarity.ensures
