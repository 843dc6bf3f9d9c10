use Rattle.http_relay_body.specs.Chunks.{IsChunked}
use Rattle.http_relay_body.proofs.Rooms.{moved_not, moved_last}
use Rattle.http_relay_body.proofs.chunks.pass_chunks.Goals as goal

pub returns-in_err-judge_chunks-clause-moved : goal.returns-in_err-judge_chunks-clause-moved
returns-in_err-judge_chunks-clause-moved g c =
    moved_not (λ _ text. IsChunked text) _ _ _ _ _ _ _ _ _ c.from_residual.ensures.1 (rw c.new-room.ensures at c.in_err-judge_chunks.ensures.passed)

pub returns-clause-moved : goal.returns-clause-moved
returns-clause-moved g c =
    let front = rw c.new-room.ensures at c.in_ok-judge_chunks.ensures.passed in
    moved_last (λ _ text. IsChunked text) _ _ _ _ _ _ _ _ front.0 _ (λ value. front.1) front.2 c.in_ok-judge_chunks.ensures.ahead
    c.send_judged.ensures.cause c.send_judged.ensures.ok c.send_judged.ensures.err
