use Rattle.std.proofs.Common.{ap, ◌∙◌}
use Rattle.lb_config.specs.ProxiesSoFar.{no_proxies}
use Rattle.lb_config.proofs.ProxiesSoFarLaws.{backends_are, frontends_are}
use Rattle.lb_config.proofs.proxies_so_far.read_proxies.Goals as goal

pub returns-clause-frontends : goal.returns-clause-frontends
returns-clause-frontends c =
    c.into_proxies.ensures.frontends ∙ ap (λ draft. draft.frontends) c.in_ok-draft.ensures ∙ frontends_are c.args.basis.now no_proxies c.args.sections.items

pub returns-clause-backends : goal.returns-clause-backends
returns-clause-backends c =
    c.into_proxies.ensures.backends ∙ ap (λ draft. draft.backends) c.in_ok-draft.ensures ∙ backends_are c.args.basis.now no_proxies c.args.sections.items
