use Rattle.std.proofs.Common.{◌≤◌, length, take, drop}
use Rattle.dual_cert_plan.proofs.Walk.{Walked}
use Rattle.cert_check.proofs.own_sheet.are_groups_of.Given as goal

abbrev pub invariant-loop-row : goal.invariant-loop-row
invariant-loop-row l =
    (l.at ≤ length l.groups) × Walked (take l.at l.groups) l.group (drop l.row-index l.rest) l.fn.rows
