-- A backend by its parts.
use Rattle.std.proofs.Common.{◌≡◌, ℕ, List, map, refl}
use Rattle.std.specs.Prelude.{unwrap_or}
use Rattle.lb_types.specs.declared.balance.Balance.{Balance}
use Rattle.lb_types.specs.declared.balance.Balance.TheVariants.{RoundRobin}
use Rattle.lb_config_rules.specs.Rules.{back_rules}
use Rattle.lb_config_rules.specs.RulesView.{BackRulesView}
use Rattle.lb_config_sections.specs.declared.config_section.NumberedSetting.{NumberedSetting}
use Rattle.lb_config_values.specs.ServerView.{ServerView}
use Rattle.lb_config_values.specs.declared.defaults.Defaults.{Defaults}
use Rattle.lb_config_values.specs.declared.proxy_values.ProxyValues.{ProxyValues}
use Rattle.lb_config.specs.BasisView.{BasisView}
use Rattle.lb_config.specs.ConfigViews.{BackendView}
use Rattle.lb_config.specs.Configs.{backend_of, servers_of, values_of}

pub backend_is : (basis : BasisView) (defaults : Defaults) (name : List ℕ) (settings : List NumberedSetting) (values : ProxyValues) (balance : Balance) (journal : ℕ) (servers : List ServerView) (names : List (List ℕ)) (rules : BackRulesView) →
    values ≡ values_of defaults settings → balance ≡ unwrap_or values.balance RoundRobin → journal ≡ basis.journal → servers ≡ servers_of defaults settings → names ≡ map (λ server. server.name) servers → rules ≡ back_rules names settings →
    ◌≡◌ {A = BackendView} (record {
      name = name;
      balance = balance;
      all_backups = values.all_backups;
      evacuate = values.evacuate;
      forward_for = values.forward_for;
      timeouts = values.timeouts;
      journal = journal;
      servers = servers;
      rules = rules;
    }) (backend_of basis defaults name settings)
backend_is basis defaults name settings values balance journal servers names rules is_values is_balance is_journal is_servers are_names are_rules =
    rw (are_rules, are_names, is_servers, is_journal, is_balance, is_values) refl
