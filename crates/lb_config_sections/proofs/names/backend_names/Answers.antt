use Rattle.std.proofs.Common.{arith, sym, ◌∙◌}
use Rattle.lb_config_sections.specs.Names.{backend_name}
use Rattle.lb_config_sections.proofs.Gathering.{gather_more, gather_end}
use Rattle.lb_config_sections.proofs.names.backend_names.Goals as goal

pub loop-section-preserved : goal.loop-section-preserved
loop-section-preserved c =
    let here = gather_more backend_name c.loop-section.names.items c.args.sections.now c.loop-section.section-index c.section-item.result (omega arith) c.section-item.is in
    rw (c.in_ok-push_found.ensures, c.backend_name.ensures) (sym here ∙ c.loop-section.invariant)

pub returns : goal.returns
returns c =
    sym (gather_end backend_name c.loop-section.names.items c.args.sections.now c.loop-section.section-index (omega arith)) ∙ c.loop-section.invariant
