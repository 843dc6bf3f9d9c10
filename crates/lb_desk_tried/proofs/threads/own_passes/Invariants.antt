use Rattle.lb_desk_tie.specs.Receipts.{AreOf}
use Rattle.lb_desk_tried.proofs.threads.own_passes.Given as goal

abbrev pub invariant-loop-pass : goal.invariant-loop-pass
invariant-loop-pass g l = AreOf l.number l.own.items
