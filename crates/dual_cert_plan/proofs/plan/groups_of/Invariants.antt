use Rattle.std.proofs.Common.{drop}
use Rattle.dual_cert_plan.proofs.Walk.{Walked}
use Rattle.dual_cert_plan.proofs.plan.groups_of.Given as goal

abbrev pub invariant-loop-row : goal.invariant-loop-row
invariant-loop-row l = Walked l.groups.items l.group (drop l.row-index l.rest) l.fn.rows
