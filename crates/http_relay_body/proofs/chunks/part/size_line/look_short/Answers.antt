use Rattle.std.proofs.Common.{arith}
use Rattle.http_relay_body.proofs.Cuts.{size_seen, size_over}
use Rattle.http_relay_body.proofs.chunks.part.size_line.look_short.Goals as goal

pub returns-then-text-of_line-le-MOST_LINE_BYTES : goal.returns-then-text-of_line-le-MOST_LINE_BYTES
returns-then-text-of_line-le-MOST_LINE_BYTES c =
    let line = c.needs-of_line in
    rw c.least_behind.ensures
    (size_seen c.args.text.now line.result c.least_size.result c.requires.none line.ensures.needs line.ensures.some.0
    c.if-text-of_line-le-MOST_LINE_BYTES.true c.least_size.ensures.least)

pub returns : goal.returns
returns c =
    size_over c.args.text.now c.needs-of_line.result c.requires.none c.needs-of_line.ensures.needs (omega (arith, c.if-text-of_line-le-MOST_LINE_BYTES.false))
