use Rattle.std.proofs.Common.{◌≡◌, ◌++◌, drop}
use Rattle.lb_config_sections.specs.Names.{gathered, backend_name}
use Rattle.lb_config_sections.proofs.names.backend_names.Given as goal

abbrev pub invariant-loop-section : goal.invariant-loop-section
invariant-loop-section l = l.names.items ++ gathered backend_name (drop l.section-index l.sections) ≡ gathered backend_name l.sections
