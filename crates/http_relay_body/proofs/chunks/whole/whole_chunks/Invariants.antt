use Rattle.std.proofs.Common.{◌-◌, ◌≤◌, length, take}
use Rattle.http_relay_forward.specs.declared.framing.BodyKind.TheVariants.{Chunked}
use Rattle.http_relay_body.specs.Bodies.{IsFront}
use Rattle.http_relay_body.proofs.chunks.whole.whole_chunks.Given as goal

-- the chunks before this place stand whole there
abbrev pub invariant-loop-chunk : goal.invariant-loop-chunk
invariant-loop-chunk l = record {
  within : l.len ≤ length l.behind;
  front : IsFront Chunked (take l.len l.behind) Chunked;
}

abbrev pub decreases-loop-chunk : goal.decreases-loop-chunk
decreases-loop-chunk l = length l.behind - l.len
