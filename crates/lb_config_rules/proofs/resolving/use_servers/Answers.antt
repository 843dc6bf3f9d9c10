use Rattle.std.proofs.Common.{sym, ap, ◌∙◌, rules, map-id}
use Rattle.std.proofs.lemmas.Iterator.Adapters.{YieldsList-from_vec}
use Rattle.std.proofs.lemmas.Iterator.Consumers.{YieldsList-end}
use Rattle.std.proofs.Common.{◌++◌}
use Rattle.std.specs.Option.{option_to_list}
use Rattle.lb_config_rules.specs.Resolved.{use_server_by}
use Rattle.lb_config_rules.proofs.Pushing.{filter_map_push}
use Rattle.lb_config_rules.proofs.resolving.use_servers.Goals as goal

pub loop-rule-preserved : goal.loop-rule-preserved
loop-rule-preserved c =
    c.in_ok-push_use_server.ensures ∙ ap (λ front. front ++ option_to_list (use_server_by c.args.servers.now c.args.acls.now c.in-Some.rule)) c.loop-rule.invariant
    ∙ sym (filter_map_push (use_server_by c.args.servers.now c.args.acls.now) c.loop-rule.yielded c.in-Some.rule)

pub returns : goal.returns
returns c =
    let end = YieldsList-end (YieldsList-from_vec {s = c.into_iter-rule-iterator.result} c.args.rules.items (search rules) (search rules))
    c.loop-rule.yielded c.loop-rule.rule-iterator c.loop-rule.yielded_by c.next.result c.next.new.self c.in-None.is c.next.ensures.steps in
    rw (← end.0, map-id) c.loop-rule.invariant
