use Rattle.http_relay_head.proofs.Requests.{judges_input}
use Rattle.http_relay_head.proofs.reading.read_head.Goals as goal

pub returns-clause-input : goal.returns-clause-input
returns-clause-input g c = judges_input _ _ _ _ c.read_into.ensures.head
