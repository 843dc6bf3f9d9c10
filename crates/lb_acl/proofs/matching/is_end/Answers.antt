use Rattle.std.proofs.Common.{◌∙◌}
use Rattle.lb_acl.proofs.Compared.{is_equal-end}
use Rattle.lb_acl.proofs.matching.is_end.Goals as goal

pub returns : goal.returns
returns c =
    let end = is_equal-end c.args.ignores_case c.args.sample.now c.args.value.now in
    c.is_equal.ensures ∙ rw c.split_at.ensures.back end
