use Rattle.std.proofs.Common.{◌≡◌, ◌++◌, drop}
use Rattle.lb_config_sections.specs.Names.{gathered, setting_name}
use Rattle.lb_config_sections.proofs.names.declared_names.Given as goal

abbrev pub invariant-loop-numbered : goal.invariant-loop-numbered
invariant-loop-numbered l =
    l.names.items ++ gathered (λ numbered. setting_name l.declared numbered.setting) (drop l.numbered-index l.settings) ≡ gathered (λ numbered. setting_name l.declared numbered.setting) l.settings
