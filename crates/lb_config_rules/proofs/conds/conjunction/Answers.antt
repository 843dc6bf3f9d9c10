use Rattle.std.proofs.Common.{[], ◌∷◌, ◌++◌, map, sym, ap, ◌∙◌, rules, map-id}
use Rattle.std.proofs.lemmas.Iterator.Adapters.{YieldsList-from_vec}
use Rattle.std.proofs.lemmas.Iterator.Consumers.{YieldsList-end}
use Rattle.std.proofs.lemmas.List.{map_push}
use Rattle.lb_config_rules.specs.Groups.{term_by}
use Rattle.lb_config_rules.proofs.conds.conjunction.Goals as goal

pub loop-unresolved-preserved : goal.loop-unresolved-preserved
loop-unresolved-preserved c =
    let l = c.loop-unresolved in
    c.in_ok-push.ensures.items ∙ ap (λ one. l.terms.items ++ one ∷ []) c.in_ok-resolved.ensures
    ∙ ap (λ front. front ++ term_by c.args.acls.now c.in-Some.unresolved ∷ []) l.invariant ∙ sym (map_push (term_by c.args.acls.now) l.yielded c.in-Some.unresolved)

pub returns : goal.returns
returns c =
    let end = YieldsList-end (YieldsList-from_vec {s = c.into_iter-unresolved-iterator.result} c.into_terms-unresolved-items.result.items (search rules) (search rules))
    c.loop-unresolved.yielded c.loop-unresolved.unresolved-iterator c.loop-unresolved.yielded_by c.next.result c.next.new.self c.in-None.is c.next.ensures.steps in
    c.new.ensures ∙ c.loop-unresolved.invariant ∙ ap (λ all. map (term_by c.args.acls.now) all) (sym (map-id c.loop-unresolved.yielded) ∙ end.0 ∙ c.into_terms-unresolved-items.ensures)
