use Rattle.std.proofs.Common.{sym}
use Rattle.set_cookie.proofs.Cuts.{first_line}
use Rattle.set_cookie.proofs.lines.next_line.Goals as goal

pub returns-clause-first : goal.returns-clause-first
returns-clause-first c =
    let first = first_line c.args.bytes.now c.in_ok-at.at (sym c.in_ok-at.ensures) in
    cc
