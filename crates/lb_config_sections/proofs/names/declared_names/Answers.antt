use Rattle.std.proofs.Common.{arith, sym, ◌∙◌}
use Rattle.lb_config_sections.specs.Names.{setting_name}
use Rattle.lb_config_sections.proofs.Gathering.{gather_more, gather_end}
use Rattle.lb_config_sections.proofs.names.declared_names.Goals as goal

pub loop-numbered-preserved : goal.loop-numbered-preserved
loop-numbered-preserved c =
    let here = gather_more (λ numbered. setting_name c.args.declared numbered.setting) c.loop-numbered.names.items c.args.settings.now c.loop-numbered.numbered-index c.numbered-item.result (omega arith) c.numbered-item.is in
    rw (c.in_ok-push_found.ensures, c.setting_name.ensures) (sym here ∙ c.loop-numbered.invariant)

pub returns : goal.returns
returns c =
    sym (gather_end (λ numbered. setting_name c.args.declared numbered.setting) c.loop-numbered.names.items c.args.settings.now c.loop-numbered.numbered-index (omega arith)) ∙ c.loop-numbered.invariant
