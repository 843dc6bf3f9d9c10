use Rattle.std.proofs.Common.{arith, ◌<◌, take, subst}
use Rattle.http_relay_body.specs.Parts.{IsSizeText}
use Rattle.http_relay_body.proofs.Fronts.{behind_within, size_some, no_last, found_last, no_chunk, found_chunk}
use Rattle.http_relay_body.proofs.Parts.{first_size}
use Rattle.http_relay_body.proofs.chunks.whole.find_chunk.Goals as goal

pub returns-in_err-line : goal.returns-in_err-line
returns-in_err-line c = rw c.from_residual.ensures (λ begins. c.in_err-line.ensures (first_size c.args.text.now begins))

pub returns-in_err-trailer : goal.returns-in_err-trailer
returns-in_err-trailer c =
    let line = c.in_ok-line.line in
    let zero = subst (λ size. IsSizeText size (take line.len c.args.text.now)) c.if-line-eq0.true c.in_ok-line.ensures.1 in
    rw c.from_residual-in_err-trailer.ensures (no_last line.len c.args.text.now zero c.in_err-trailer.ensures)

pub returns-then-line-eq0 : goal.returns-then-line-eq0
returns-then-line-eq0 c =
    let text = c.args.text.now in
    let line = c.in_ok-line.line in
    let trailer = c.in_ok-trailer.trailer in
    let within = c.in_ok-line.ensures.0 in
    let zero = subst (λ size. IsSizeText size (take line.len text)) c.if-line-eq0.true c.in_ok-line.ensures.1 in (
      omega (arith, size_some line.len 0 text within zero),
      behind_within line.len trailer.len text within c.in_ok-trailer.ensures.0,
      found_last line.len trailer.len trailer.value text zero c.in_ok-trailer.ensures.1,
    )

pub returns-in_err-content : goal.returns-in_err-content
returns-in_err-content c =
    let line = c.in_ok-line.line in
    let some : 0 < line.value = omega (arith, c.if-line-eq0.false) in
    rw c.from_residual-in_err-content.ensures (no_chunk line.len line.value c.args.text.now some c.in_ok-line.ensures.1 c.in_err-content.ensures)

pub returns : goal.returns
returns c =
    let text = c.args.text.now in
    let line = c.in_ok-line.line in
    let content = c.in_ok-content.content in
    let within = c.in_ok-line.ensures.0 in
    let some : 0 < line.value = omega (arith, c.if-line-eq0.false) in (
      omega (arith, size_some line.len line.value text within c.in_ok-line.ensures.1),
      behind_within line.len content text within c.in_ok-content.ensures.0,
      found_chunk line.len content line.value text some c.in_ok-line.ensures.1 c.in_ok-content.ensures.1,
    )
