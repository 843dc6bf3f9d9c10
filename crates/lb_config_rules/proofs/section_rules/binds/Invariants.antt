use Rattle.std.proofs.Common.{◌≡◌, ◌++◌, drop}
use Rattle.lb_config_rules.specs.Parts.{all_in, bind_in}
use Rattle.lb_config_rules.proofs.section_rules.binds.Given as goal

abbrev pub invariant-loop-numbered : goal.invariant-loop-numbered
invariant-loop-numbered l = l.binds.items ++ all_in bind_in (drop l.numbered-index l.settings) ≡ all_in bind_in l.settings
