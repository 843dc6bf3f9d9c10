use Rattle.std.proofs.Common.{◌∷◌, ◌+◌, drop, arith, sym, ap, ◌∙◌}
use Rattle.std.proofs.lemmas.List.{at_drop_more}
use Rattle.lb_config_values.specs.Values.{globals_behind}
use Rattle.lb_config_values.proofs.ValueSteps.{globals_step}
use Rattle.lb_config_values.proofs.global_values.GlobalValues.behind.Goals as goal

pub loop-numbered-preserved : goal.loop-numbered-preserved
loop-numbered-preserved c =
    let l = c.loop-numbered in
    let settings = c.args.settings.now in
    let one = c.numbered-item.result in
    let here = at_drop_more (λ rest. globals_behind l.values rest) settings l.numbered-index one (omega arith)
    ∙ ap (λ first. globals_behind l.values (first ∷ drop (l.numbered-index + 1) settings)) (sym c.numbered-item.is)
    ∙ globals_step l.values one (drop (l.numbered-index + 1) settings) in
    rw c.with-values.ensures (sym here ∙ l.invariant)
