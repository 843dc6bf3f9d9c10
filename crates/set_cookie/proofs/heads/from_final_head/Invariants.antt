use Rattle.std.proofs.Common.{◌≡◌, length}
use Rattle.set_cookie.specs.Lines.{lines_of, final_head}
use Rattle.set_cookie.proofs.heads.from_final_head.Given as goal

abbrev pub invariant-loop-behind : goal.invariant-loop-behind
invariant-loop-behind l = final_head l.rest ≡ final_head l.fn.bytes

abbrev pub decreases-loop-behind : goal.decreases-loop-behind
decreases-loop-behind l = length (lines_of l.rest)
