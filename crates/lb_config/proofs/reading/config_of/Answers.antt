use Rattle.std.proofs.Common.{rules, ◌≡◌, sym, subst}
use Rattle.lb_config_arguments.specs.Ranges.{IsFromTo}
use Rattle.lb_config_lines.specs.declared.common_line.TheConstants.{MAX_JOURNAL}
use Rattle.lb_config.specs.ConfigViews.{ConfigView}
use Rattle.lb_config.specs.Configs.{basis_of, config_of}
use Rattle.lb_config.specs.ValidConfigs.{IsConfig}
use Rattle.lb_config.proofs.ValidTexts.{config_is_valid, journal_ok}
use Rattle.lb_config.proofs.reading.config_of.Goals as goal

pub invariant_of-basis : goal.invariant_of-basis
invariant_of-basis c =
    let here : c.journal-journal.result ≡ (basis_of c.args.sections.sections).journal = search rules in
    subst (IsFromTo 1 MAX_JOURNAL) (sym here) (journal_ok c.args.sections.sections c.requires.numbers)

pub invariant_of-result : goal.invariant_of-result
unfolding config_of
invariant_of-result c =
    let here : ◌≡◌ {A = ConfigView} (record {
      relays = c.relays-relays.result;
      tries = c.tries-tries.result;
      socket = c.in_ok-socket.socket;
      frontends = c.in_ok-frontends.frontends.items;
      backends = c.in_ok-frontends.backends.items;
      warnings = c.into_lists-sections.result.1.items;
    }) (config_of c.args.sections) = search rules in
    subst IsConfig (sym here) (config_is_valid c.args.sections c.requires)
