use Rattle.lb_run_pins.proofs.AllReturned.{all_returned}
use Rattle.lb_run_pins.proofs.returning.return_to.Goals as goal

pub returns-then-left_out-eq0 : goal.returns-then-left_out-eq0
returns-then-left_out-eq0 g c = all_returned c.args.backend.now c.args.back.now.file.now c.args.back.now.moment _ _ _ _ c.in_ok-pins.ensures.pins c.in_ok-kept.ensures.sets

pub returns : goal.returns
returns g c = all_returned c.args.backend.now c.args.back.now.file.now c.args.back.now.moment _ _ _ _ c.in_ok-pins.ensures.pins c.in_ok-kept.ensures.sets
