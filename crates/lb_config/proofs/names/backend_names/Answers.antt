use Rattle.std.proofs.Common.{arith, sym, ◌∙◌}
use Rattle.lb_config_sections.specs.Names.{backend_name}
use Rattle.lb_config.proofs.Steps.{gather_more, gather_end}
use Rattle.lb_config.proofs.names.backend_names.Goals as goal

pub loop-section-preserved : goal.loop-section-preserved
loop-section-preserved c =
    let l = c.loop-section in
    let here = gather_more backend_name l.names.items c.args.sections.now l.section-index c.section-item.result (omega arith) c.section-item.is in
    rw (c.in_ok-push_found.ensures, c.backend_name.ensures) (sym here ∙ l.invariant)

pub returns : goal.returns
returns c =
    let l = c.loop-section in
    sym (gather_end backend_name l.names.items c.args.sections.now l.section-index (omega arith)) ∙ l.invariant
