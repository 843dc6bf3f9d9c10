use Rattle.std.proofs.Common.{arith, ◌<◌, [], subst, true, false}
use Rattle.http_relay_body.specs.declared.chunks.part.Part.TheVariants.{SizeLine, Trailer}
use Rattle.http_relay_body.specs.Parts.{IsSizeText, IsDataText, IsChunkText, IsPartText}
use Rattle.http_relay_body.proofs.Finishes.{finishes_size, finishes_trailer, finishes_chunk}
use Rattle.http_relay_body.proofs.Parts.{first_size, skip_last, skip_size, join_last, join_chunk}
use Rattle.http_relay_body.proofs.Rooms.{carry_nothing, handed_later, passed_later}
use Rattle.http_relay_body.proofs.chunks.pass_chunk.Goals as goal

pub returns-in_err-size-clause-passed : goal.returns-in_err-size-clause-passed
returns-in_err-size-clause-passed g c =
    handed_later IsChunkText (IsPartText SizeLine) _ _ _ [] _ _ c.from_residual.ensures.1 (carry_nothing _) first_size finishes_size c.in_err-size.ensures.passed

pub returns-in_err-pass_part-clause-passed : goal.returns-in_err-pass_part-clause-passed
returns-in_err-pass_part-clause-passed g c =
    let front = c.in_ok-size.ensures.passed in
    let zero : IsSizeText 0 front.0 = subst (λ size. IsSizeText size front.0) c.if-size-eq0.true front.1 in
    handed_later IsChunkText (IsPartText Trailer) _ _ _ front.0 _ _ c.from_residual-in_err-pass_part.ensures.1 front.2
    (λ rest. skip_last 0 front.0 rest zero) (finishes_trailer front.0 zero) c.in_err-pass_part.ensures.passed

pub returns-then-size-eq0-clause-passed : goal.returns-then-size-eq0-clause-passed
returns-then-size-eq0-clause-passed g c =
    let front = c.in_ok-size.ensures.passed in
    let zero : IsSizeText 0 front.0 = subst (λ size. IsSizeText size front.0) c.if-size-eq0.true front.1 in
    passed_later IsChunkText (IsPartText Trailer) _ _ _ front.0 true c.in_ok-pass_part.field-0 front.2
    (λ rest. join_last c.in_ok-pass_part.field-0 front.0 rest zero) c.in_ok-pass_part.ensures.passed

pub returns-in_err-pass_data-clause-passed : goal.returns-in_err-pass_data-clause-passed
returns-in_err-pass_data-clause-passed g c =
    let front = c.in_ok-size.ensures.passed in
    let some : 0 < c.in_ok-size.size = omega (arith, c.if-size-eq0.false) in
    handed_later IsChunkText (IsDataText c.in_ok-size.size) _ _ _ front.0 _ _ c.from_residual-in_err-pass_data.ensures.1 front.2
    (λ rest. skip_size tt c.in_ok-size.size front.0 rest some front.1) (finishes_chunk c.in_ok-size.size front.0 some front.1) c.in_err-pass_data.ensures.passed

pub returns-clause-passed : goal.returns-clause-passed
returns-clause-passed g c =
    let front = c.in_ok-size.ensures.passed in
    let some : 0 < c.in_ok-size.size = omega (arith, c.if-size-eq0.false) in
    passed_later IsChunkText (IsDataText c.in_ok-size.size) _ _ _ front.0 false c.in_ok-pass_data.field-0 front.2
    (λ rest. join_chunk c.in_ok-pass_data.field-0 c.in_ok-size.size front.0 rest some front.1) c.in_ok-pass_data.ensures.passed
