use Rattle.std.proofs.Common.{sym}
use Rattle.lb_types_text.proofs.Cuts.{cut_whole, cut_found, cut_none, some_part}
use Rattle.lb_types_text.proofs.parts.cut.Goals as goal

pub returns-in_err-at-clause-none : goal.returns-in_err-at-clause-none
returns-in_err-at-clause-none c =
    rw c.from_residual.ensures (cut_none c.args.mark c.args.bytes.now (sym (c.in_err-at.ensures)))

pub returns-clause-found : goal.returns-clause-found
returns-clause-found c =
    let cut = cut_found c.args.mark c.args.bytes.now c.in_ok-at.at (sym (c.in_ok-at.ensures)) in
    cc

pub returns-clause-more : goal.returns-clause-more
returns-clause-more c = some_part c.args.mark _

pub returns-clause-whole : goal.returns-clause-whole
returns-clause-whole c =
    let cut = cut_whole c.args.mark c.args.bytes.now c.in_ok-at.at (sym (c.in_ok-at.ensures)) in
    cc
