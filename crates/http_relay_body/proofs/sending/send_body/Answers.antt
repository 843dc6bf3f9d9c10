use Rattle.http_relay_body.proofs.Inputs.{judges_input}
use Rattle.http_relay_body.proofs.sending.send_body.Goals as goal

pub returns-clause-input : goal.returns-clause-input
returns-clause-input g c = judges_input _ _ _ _ _ _ _ _ (rw c.new-at_hand.ensures at c.send_through.ensures.moved)
