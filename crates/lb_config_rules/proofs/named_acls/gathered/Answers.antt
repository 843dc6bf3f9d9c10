use Rattle.std.proofs.Common.{sym, ap, ◌∙◌, rules, map-id}
use Rattle.std.proofs.lemmas.Iterator.Adapters.{YieldsList-from_vec}
use Rattle.std.proofs.lemmas.Iterator.Consumers.{YieldsList-end}
use Rattle.lb_config_rules.specs.Groups.{with_line}
use Rattle.lb_config_rules.proofs.Pushing.{lines_push}
use Rattle.lb_config_rules.proofs.named_acls.gathered.Goals as goal

pub loop-line-preserved : goal.loop-line-preserved
loop-line-preserved c =
    c.in_ok-add_line.ensures ∙ ap (λ groups. with_line groups c.in-Some.line) c.loop-line.invariant ∙ sym (lines_push _ c.loop-line.yielded c.in-Some.line)

pub returns : goal.returns
returns c =
    let end = YieldsList-end (YieldsList-from_vec {s = c.into_iter-line-iterator.result} c.args.lines.items (search rules) (search rules))
    c.loop-line.yielded c.loop-line.line-iterator c.loop-line.yielded_by c.next.result c.next.new.self c.in-None.is c.next.ensures.steps in
    rw (← end.0, map-id) c.loop-line.invariant
