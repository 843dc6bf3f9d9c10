use Rattle.std.proofs.Common.{◌∷◌, ◌+◌, drop, arith, sym, ap, ◌∙◌}
use Rattle.std.specs.Option.{option_copied, option_map}
use Rattle.std.proofs.lemmas.List.{at_drop_more}
use Rattle.lb_config_values.specs.Values.{check_line_in, last_said, request_line_of}
use Rattle.lb_config_values.proofs.ValueSteps.{said_step}
use Rattle.lb_config_values.proofs.http_check.last_http_check.Goals as goal

pub loop-numbered-preserved : goal.loop-numbered-preserved
loop-numbered-preserved c =
    let l = c.loop-numbered in
    let settings = c.args.settings.now in
    let one = c.numbered-item.result in
    let found = option_map request_line_of (option_copied l.found) in
    let here = at_drop_more (λ rest. last_said found check_line_in rest) settings l.numbered-index one (omega arith)
    ∙ ap (λ first. last_said found check_line_in (first ∷ drop (l.numbered-index + 1) settings)) (sym c.numbered-item.is)
    ∙ said_step found check_line_in one (drop (l.numbered-index + 1) settings) in
    rw c.later_check-found.ensures (sym here ∙ l.invariant)
