use Rattle.std.proofs.Common.{◌≡◌, ◌+◌, ◌≤◌, length}
use Rattle.lb_types_text.specs.Parts.{parts}
use Rattle.dual_cert_text.specs.PlanTexts.{plan_format}
use Rattle.dual_cert_text.specs.Texts.{body_at}
use Rattle.dual_cert_text.proofs.plan_text.read_body.Given as goal

-- the lines that are left, behind the draft, are read as all of them
abbrev pub invariant-loop-line : goal.invariant-loop-line
invariant-loop-line l =
    (body_at plan_format l.number l.draft (parts 10 l.rest) ≡ body_at plan_format 3 l.fn.draft (parts 10 l.fn.text))
    × (l.number + length l.rest ≤ 3 + length l.fn.text)

abbrev pub decreases-loop-line : goal.decreases-loop-line
decreases-loop-line l = length l.rest
