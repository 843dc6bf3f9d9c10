use Rattle.std.proofs.Common.{arith, ◌≤◌, length}
use Rattle.http_relay_body.proofs.Fronts.{behind_within, found_data}
use Rattle.http_relay_body.proofs.chunks.whole.find_data.Goals as goal

pub returns : goal.returns
returns c =
    let text = c.args.text.now in
    let within : c.args.size ≤ length text = omega (arith, c.if-size-text.false) in
    let end = c.in_ok-end.ensures in (
      behind_within c.args.size c.in_ok-end.end.len text within end.0,
      found_data c.args.size c.in_ok-end.end.len c.in_ok-end.end.value text within end.1,
    )
