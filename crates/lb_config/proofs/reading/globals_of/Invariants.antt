use Rattle.std.proofs.Common.{◌≡◌, drop}
use Rattle.lb_config.specs.Configs.{globals_in, globals_of}
use Rattle.lb_config.proofs.reading.globals_of.Given as goal

abbrev pub invariant-loop-section : goal.invariant-loop-section
invariant-loop-section l = globals_in l.globals (drop l.section-index l.sections) ≡ globals_of l.sections
