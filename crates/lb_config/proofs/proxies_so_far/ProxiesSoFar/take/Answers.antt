use Rattle.lb_config.proofs.InRange.{defaults_of_ok}
use Rattle.lb_config.proofs.proxies_so_far.ProxiesSoFar.take.Goals as goal

pub invariant_of-self : goal.invariant_of-self
invariant_of-self c =
    rw (c.in_ok-defaults-in-Defaults.ensures, c.deref.ensures.value, c.into_settings-settings.ensures) (defaults_of_ok c.args.section.settings c.requires)
