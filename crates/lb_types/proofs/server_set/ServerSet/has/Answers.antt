use Rattle.std.proofs.Common.{rules}
use Rattle.std.proofs.lemmas.Nat.Bits.{shr_and_one}
use Rattle.lb_types.specs.Servers.{has}
use Rattle.lb_types.proofs.server_set.ServerSet.has.Goals as goal

pub returns : goal.returns
unfolding has
returns c = rw (shr_and_one, c.self.view_is, c.index.ensures.exact) (search rules)
