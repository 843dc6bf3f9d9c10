use Rattle.http_relay_body.proofs.front.BodyFront.of.Goals as goal

pub returns-in-Chunked-clause-front : goal.returns-in-Chunked-clause-front
returns-in-Chunked-clause-front c = rw c.in-Chunked.is c.whole_chunks.ensures.front
