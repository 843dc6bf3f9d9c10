use Rattle.std.proofs.Common.{take, subst}
use Rattle.http_relay_body.specs.Parts.{IsChunkText}
use Rattle.http_relay_body.proofs.Fronts.{behind, behind_within, nothing_whole, chunk_front, last_front}
use Rattle.http_relay_body.proofs.chunks.whole.whole_chunks.Goals as goal

pub returns-in-None-clause-all : goal.returns-in-None-clause-all
returns-in-None-clause-all c = nothing_whole c.loop-chunk.len c.args.behind.now c.in-None.ensures

pub returns-then-chunk-clause-front : goal.returns-then-chunk-clause-front
returns-then-chunk-clause-front c =
    let at = c.loop-chunk.len in
    let chunk = c.in-Some.chunk in
    let last = subst (λ is_last. IsChunkText is_last (take chunk.len (behind at c.args.behind.now))) c.if-chunk.true c.in-Some.ensures.2 in
    last_front at chunk.len c.args.behind.now c.loop-chunk.invariant.front last

pub loop-chunk-preserved : goal.loop-chunk-preserved
loop-chunk-preserved c =
    let at = c.loop-chunk.len in
    let chunk = c.in-Some.chunk in
    let next = subst (λ is_last. IsChunkText is_last (take chunk.len (behind at c.args.behind.now))) c.if-chunk.false c.in-Some.ensures.2 in
    record {
      within = behind_within at chunk.len c.args.behind.now c.loop-chunk.invariant.within c.in-Some.ensures.1;
      front = chunk_front at chunk.len c.args.behind.now c.loop-chunk.invariant.front next;
    }
