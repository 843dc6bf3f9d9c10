use Rattle.http_relay_body.proofs.Walks.{walked_nothing}
use Rattle.http_relay_body.proofs.chunks.part.trailer.Walk.new.Goals as goal

pub returns : goal.returns
returns c = walked_nothing
