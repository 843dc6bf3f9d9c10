use Rattle.std.proofs.Common.{[], sym, ap, ◌∙◌, rules, map-id}
use Rattle.std.proofs.lemmas.Iterator.Adapters.{YieldsList-from_vec}
use Rattle.std.proofs.lemmas.Iterator.Consumers.{YieldsList-end}
use Rattle.lb_config.specs.Kept.{with_kept}
use Rattle.lb_config.proofs.Distinct.{kept_push, lawful}
use Rattle.lb_config.proofs.kept.kept_servers.Goals as goal

pub loop-server-preserved : goal.loop-server-preserved
loop-server-preserved c =
    c.in_ok-keep.ensures ∙ ap (λ front. with_kept front c.in-Some.server) c.loop-server.invariant ∙ sym (kept_push [] c.loop-server.yielded c.in-Some.server)

pub returns-clause-exact : goal.returns-clause-exact
returns-clause-exact c =
    let end = YieldsList-end (YieldsList-from_vec {s = c.into_iter-server-iterator.result} c.args.servers.items (search rules) (search rules))
    c.loop-server.yielded c.loop-server.server-iterator c.loop-server.yielded_by c.next.result c.next.new.self c.in-None.is c.next.ensures.steps in
    rw (← end.0, map-id) c.loop-server.invariant

pub returns-clause-lawful : goal.returns-clause-lawful
returns-clause-lawful c = rw c.loop-server.invariant (lawful c.loop-server.yielded)
