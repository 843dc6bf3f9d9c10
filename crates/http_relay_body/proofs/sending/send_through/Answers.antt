use Rattle.std.proofs.Common.{◌≡◌, [], refl, sym}
use Rattle.http_relay_body.proofs.Moves.{take_nothing, append_nothing, part_sent}
use Rattle.http_relay_body.proofs.sending.send_through.Goals as goal

pub returns-in-Empty-clause-moved : goal.returns-in-Empty-clause-moved
returns-in-Empty-clause-moved g c = rw c.in-Empty.is (part_sent (λ _ text. text ≡ []) _ _ _ _ _ _ tt [] (take_nothing _ _) refl (sym (append_nothing _)))

pub returns-in-Length-clause-moved : goal.returns-in-Length-clause-moved
returns-in-Length-clause-moved g c = rw c.in-Length.is c.send_counted.ensures.moved

pub returns-in-Chunked-clause-moved : goal.returns-in-Chunked-clause-moved
returns-in-Chunked-clause-moved g c = rw c.in-Chunked.is c.pass_chunks.ensures.moved
