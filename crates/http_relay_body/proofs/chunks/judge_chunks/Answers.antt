use Rattle.std.proofs.Common.{refl, [], ◌++◌, ◌∙◌}
use Rattle.http_relay_body.specs.Chunks.{IsChunked}
use Rattle.http_relay_body.specs.Parts.{IsChunkText}
use Rattle.http_relay_body.proofs.Chunking.{chunk_uses}
use Rattle.http_relay_body.proofs.Finishes.{finishes_chunks}
use Rattle.http_relay_body.proofs.Parts.{first_part, last_part, join_chunks, skip_chunks}
use Rattle.http_relay_body.proofs.Rooms.{carry_nothing, carry_twice, handed_later}
use Rattle.http_relay_body.proofs.chunks.judge_chunks.Goals as goal

pub loop-init : goal.loop-init
loop-init g c = record {
  done = [];
  carried = carry_nothing _;
  joins = λ rest body. body;
  skips = λ rest begins. begins;
  few = c.requires;
  client = refl;
  server = refl;
  client_written = refl;
  server_reading = refl;
}

pub returns-in_err-pass_chunk-clause-passed : goal.returns-in_err-pass_chunk-clause-passed
returns-in_err-pass_chunk-clause-passed g c =
    let known = c.loop.invariant in
    handed_later (λ _ text. IsChunked text) IsChunkText _ _ _ known.done _ _ c.from_residual.ensures.1 known.carried
    (λ rest begins. first_part rest (known.skips rest begins)) (finishes_chunks (tt {0}) known.done known.joins) c.in_err-pass_chunk.ensures.passed

pub returns-then-branch-clause-passed : goal.returns-then-branch-clause-passed
returns-then-branch-clause-passed g c =
    let known = c.loop.invariant in
    let last = rw c.if-branch.true at c.in_ok-pass_chunk.ensures.passed in
    (known.done ++ last.0, known.joins last.0 (last_part last.0 last.1), carry_twice _ _ _ known.done last.0 known.carried last.2)

pub loop-preserved : goal.loop-preserved
loop-preserved g c =
    let known = c.loop.invariant in
    let step = rw c.if-branch.false at c.in_ok-pass_chunk.ensures.passed in
    let few = rw c.if-branch.false at c.in_ok-pass_chunk.ensures.ahead in
    record {
      done = known.done ++ step.0;
      carried = carry_twice _ _ _ known.done step.0 known.carried step.2;
      joins = λ rest. join_chunks known.done step.0 rest known.joins step.1;
      skips = λ rest. skip_chunks known.done step.0 rest known.skips step.1;
      few = few;
      client = c.in_ok-pass_chunk.ensures.client ∙ known.client;
      server = c.in_ok-pass_chunk.ensures.server ∙ known.server;
      client_written = c.in_ok-pass_chunk.ensures.client_written ∙ known.client_written;
      server_reading = c.in_ok-pass_chunk.ensures.server_reading ∙ known.server_reading;
    }

pub loop-smaller : goal.loop-smaller
loop-smaller g c =
    let step = rw c.if-branch.false at c.in_ok-pass_chunk.ensures.passed in
    chunk_uses _ _ step.0 step.2 step.1 c.loop.invariant.few
