use Rattle.std.proofs.Common.{arith, sym, ◌∙◌}
use Rattle.lb_config_rules.specs.Parts.{bind_in}
use Rattle.lb_config_rules.proofs.Pushing.{gather_more, gather_end}
use Rattle.lb_config_rules.proofs.section_rules.binds.Goals as goal

pub loop-numbered-preserved : goal.loop-numbered-preserved
loop-numbered-preserved c =
    let l = c.loop-numbered in
    let here = gather_more (λ numbered. bind_in numbered.setting) l.binds.items c.args.settings.now l.numbered-index c.numbered-item.result (omega arith) c.numbered-item.is in
    rw c.in_ok-push_bind.ensures (sym here ∙ l.invariant)

pub returns : goal.returns
returns c =
    let l = c.loop-numbered in
    sym (gather_end (λ numbered. bind_in numbered.setting) l.binds.items c.args.settings.now l.numbered-index (omega arith)) ∙ l.invariant
