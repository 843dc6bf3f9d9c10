use Rattle.std.proofs.Common.{sym, ap, ◌∙◌, rules, map-id}
use Rattle.std.proofs.lemmas.Iterator.Adapters.{YieldsList-from_vec}
use Rattle.std.proofs.lemmas.Iterator.Consumers.{YieldsList-end}
use Rattle.lb_config_rules.specs.Parts.{no_parts, with_part}
use Rattle.lb_config_rules.proofs.PartSteps.{parts_are, parts_more}
use Rattle.lb_config_rules.proofs.section_parts.SectionParts.of.Goals as goal

pub loop-numbered-preserved : goal.loop-numbered-preserved
loop-numbered-preserved c =
    c.in_ok-take.ensures ∙ ap (λ parts. with_part parts c.in-Some.numbered.setting) c.loop-numbered.invariant
    ∙ sym (parts_more no_parts c.loop-numbered.yielded c.in-Some.numbered)

pub returns : goal.returns
returns c =
    let end = YieldsList-end (YieldsList-from_vec {s = c.into_iter-numbered-iterator.result} c.args.settings.items (search rules) (search rules))
    c.loop-numbered.yielded c.loop-numbered.numbered-iterator c.loop-numbered.yielded_by c.next.result c.next.new.self c.in-None.is c.next.ensures.steps in
    rw (← end.0, map-id) (c.loop-numbered.invariant ∙ parts_are c.loop-numbered.yielded)
