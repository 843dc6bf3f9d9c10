use Rattle.std.proofs.Common.{◌≡◌, ℕ}
use Rattle.lb_desk_tie.specs.Receipts.{AreOf}
use Rattle.lb_run_desks.proofs.closing.take_own.Given as goal

abbrev pub invariant-loop-pass : goal.invariant-loop-pass
invariant-loop-pass g l = AreOf l.number l.own.items

abbrev pub decreases-loop-pass : goal.decreases-loop-pass
decreases-loop-pass g l = goal.left-loop-pass g l
