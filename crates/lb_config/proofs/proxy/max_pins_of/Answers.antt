use Rattle.std.proofs.Common.{◌∷◌, ◌+◌, drop, arith, sym, ap, ◌∙◌}
use Rattle.std.proofs.lemmas.List.{at_drop_more}
use Rattle.lb_config_values.specs.Values.{last_said}
use Rattle.lb_config_values.proofs.ValueSteps.{said_step}
use Rattle.lb_config.specs.Configs.{size_in}
use Rattle.lb_config.proofs.proxy.max_pins_of.Goals as goal

pub loop-numbered-preserved : goal.loop-numbered-preserved
loop-numbered-preserved c =
    let l = c.loop-numbered in
    let settings = c.args.settings.now in
    let one = c.numbered-item.result in
    let here = at_drop_more (λ rest. last_said l.size size_in rest) settings l.numbered-index one (omega arith)
    ∙ ap (λ first. last_said l.size size_in (first ∷ drop (l.numbered-index + 1) settings)) (sym c.numbered-item.is)
    ∙ said_step l.size size_in one (drop (l.numbered-index + 1) settings) in
    (rw c.later_size-size.ensures.exact (sym here ∙ l.invariant.0), c.later_size-size.ensures.within)
