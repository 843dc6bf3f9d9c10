use Rattle.server_state.proofs.Picked.{has-usable}
use Rattle.server_state.proofs.farm.Farm.usable.Goals as goal

pub returns-clause-members : goal.returns-clause-members
returns-clause-members c s = rw (c.self.invariant.kept, ← c.self.view_is) (has-usable _ s)
