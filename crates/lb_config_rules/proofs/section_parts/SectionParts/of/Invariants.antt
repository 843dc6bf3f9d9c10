use Rattle.std.proofs.Common.{◌≡◌}
use Rattle.lb_config_rules.specs.Parts.{no_parts, with_parts}
use Rattle.lb_config_rules.proofs.section_parts.SectionParts.of.Given as goal

abbrev pub invariant-loop-numbered : goal.invariant-loop-numbered
invariant-loop-numbered l = l.parts ≡ with_parts no_parts l.yielded
