use Rattle.std.proofs.Common.{◌≡◌, drop}
use Rattle.lb_config_sections.specs.References.{sections_fault}
use Rattle.lb_config_sections.proofs.checked.sections_fault.Given as goal

abbrev pub invariant-loop-section : goal.invariant-loop-section
invariant-loop-section l = sections_fault l.backends (drop l.section-index l.sections) ≡ sections_fault l.backends l.sections
