use Rattle.std.proofs.Common.{◌≡◌}
use Rattle.lb_config.specs.ProxiesSoFar.{no_proxies, with_sections}
use Rattle.lb_config.proofs.proxies_so_far.ProxiesSoFar.of.Given as goal

abbrev pub invariant-loop-section : goal.invariant-loop-section
invariant-loop-section l = l.draft ≡ with_sections l.basis no_proxies l.yielded
