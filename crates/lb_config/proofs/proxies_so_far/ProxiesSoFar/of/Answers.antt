use Rattle.std.proofs.Common.{length, sym, ap, subst, ◌∙◌, rules, map-id}
use Rattle.std.proofs.lemmas.Iterator.Adapters.{YieldsList-from_vec}
use Rattle.std.proofs.lemmas.Iterator.Consumers.{YieldsList-end, YieldsList-turn}
use Rattle.std.proofs.lemmas.List.Elements.{All-get_or}
use Rattle.lb_config_sections.specs.SectionView.{SectionView}
use Rattle.lb_config.specs.ProxiesSoFar.{no_proxies, with_section}
use Rattle.lb_config.specs.SaidInRange.{HaveNumbers}
use Rattle.lb_config.proofs.Steps.{sections_push}
use Rattle.lb_config.proofs.proxies_so_far.ProxiesSoFar.of.Goals as goal

pub take-requires : goal.take-requires
take-requires c =
    let l = c.loop-section in
    let turn = YieldsList-turn (YieldsList-from_vec {s = c.into_iter-section-iterator.result} c.args.sections.items (search rules) (search rules))
    l.yielded l.section-iterator l.yielded_by c.next.result c.next.new.self c.in-Some.section c.in-Some.is c.next.ensures.steps in
    subst (λ (section : SectionView). HaveNumbers section.settings) (sym turn.1)
    (All-get_or (λ (section : SectionView). HaveNumbers section.settings) c.args.sections.items (length l.yielded) c.in-Some.section turn.0 c.requires)

pub loop-section-preserved : goal.loop-section-preserved
loop-section-preserved c =
    c.in_ok-take.ensures ∙ ap (λ draft. with_section c.args.basis.now draft c.in-Some.section) c.loop-section.invariant
    ∙ sym (sections_push c.args.basis.now no_proxies c.loop-section.yielded c.in-Some.section)

pub returns : goal.returns
returns c =
    let end = YieldsList-end (YieldsList-from_vec {s = c.into_iter-section-iterator.result} c.args.sections.items (search rules) (search rules))
    c.loop-section.yielded c.loop-section.section-iterator c.loop-section.yielded_by c.next.result c.next.new.self c.in-None.is c.next.ensures.steps in
    rw (← end.0, map-id) c.loop-section.invariant
