use Rattle.std.proofs.Common.{◌≡◌, drop}
use Rattle.lb_config_sections.specs.SectionsSoFar.{lines_behind, no_lines}
use Rattle.lb_config_sections.proofs.sections.read_draft.Given as goal

abbrev pub invariant-loop-line : goal.invariant-loop-line
invariant-loop-line l = lines_behind l.draft (drop l.line-index l.lines) ≡ lines_behind no_lines l.lines
