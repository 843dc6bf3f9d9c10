use Rattle.std.proofs.Common.{◌≡◌, drop}
use Rattle.lb_config_sections.specs.References.{settings_fault}
use Rattle.lb_config_sections.proofs.setting_references.settings_fault.Given as goal

abbrev pub invariant-loop-numbered : goal.invariant-loop-numbered
invariant-loop-numbered l = settings_fault l.backends l.names (drop l.numbered-index l.settings) ≡ settings_fault l.backends l.names l.settings
