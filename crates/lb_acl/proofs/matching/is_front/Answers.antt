use Rattle.std.proofs.Common.{◌∙◌}
use Rattle.lb_acl.proofs.Compared.{is_equal-front}
use Rattle.lb_acl.proofs.matching.is_front.Goals as goal

pub returns : goal.returns
returns c =
    let front = is_equal-front c.args.ignores_case c.args.sample.now c.args.value.now in
    c.is_equal.ensures ∙ rw c.split_at.ensures.front front
