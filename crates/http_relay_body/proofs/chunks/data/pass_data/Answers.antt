use Rattle.std.proofs.Common.{[]}
use Rattle.http_relay_body.specs.declared.chunks.part.Part.TheVariants.{DataEnd}
use Rattle.http_relay_body.specs.Moves.{IsLong}
use Rattle.http_relay_body.specs.Parts.{IsDataText, IsPartText}
use Rattle.http_relay_body.proofs.Finishes.{finishes_data, finishes_end}
use Rattle.http_relay_body.proofs.Parts.{first_data, join_data, skip_data}
use Rattle.http_relay_body.proofs.Rooms.{carry_nothing, handed_later, passed_later}
use Rattle.http_relay_body.proofs.chunks.data.pass_data.Goals as goal

pub returns-in_err-pass_bytes-clause-passed : goal.returns-in_err-pass_bytes-clause-passed
returns-in_err-pass_bytes-clause-passed g c =
    handed_later (IsDataText c.args.size) (IsLong c.args.size) _ _ _ [] _ _ c.from_residual.ensures.1 (carry_nothing _) (first_data c.args.size)
    (finishes_data (tt {0}) c.args.size) c.in_err-pass_bytes.ensures.passed

pub returns-in_err-pass_part-clause-passed : goal.returns-in_err-pass_part-clause-passed
returns-in_err-pass_part-clause-passed g c =
    let front = c.in_ok-pass_bytes.ensures.passed in
    handed_later (IsDataText c.args.size) (IsPartText DataEnd) _ _ _ front.0 _ _ c.from_residual-in_err-pass_part.ensures.1 front.2
    (λ rest begins. let end = skip_data c.args.size front.0 rest front.1 begins in (0, end.1, end.2, end.3, end.4)) (finishes_end (tt {0}) c.args.size front.0 front.1) c.in_err-pass_part.ensures.passed

pub returns-clause-passed : goal.returns-clause-passed
returns-clause-passed g c =
    let front = c.in_ok-pass_bytes.ensures.passed in
    passed_later (IsDataText c.args.size) (IsPartText DataEnd) _ _ _ front.0 (tt {0}) c.in_ok-pass_part.field-0 front.2
    (λ rest end. join_data (tt {0}) c.args.size front.0 rest front.1 end) c.in_ok-pass_part.ensures.passed
