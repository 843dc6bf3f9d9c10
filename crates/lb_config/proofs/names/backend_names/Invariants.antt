use Rattle.std.proofs.Common.{◌≡◌, ◌++◌, drop}
use Rattle.std.specs.List.{filter_map}
use Rattle.lb_config_sections.specs.Names.{backend_name}
use Rattle.lb_config.proofs.names.backend_names.Given as goal

abbrev pub invariant-loop-section : goal.invariant-loop-section
invariant-loop-section l = l.names.items ++ filter_map backend_name (drop l.section-index l.sections) ≡ filter_map backend_name l.sections
