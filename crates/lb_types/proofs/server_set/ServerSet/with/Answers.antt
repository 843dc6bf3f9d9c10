use Rattle.std.proofs.Common.{◌≡◌, ◌*◌, ◌%◌, ◌^◌, ◌<◌, arith}
use Rattle.std.proofs.lemmas.Nat.{one_shl}
use Rattle.lb_types.proofs.Sets.{has-with}
use Rattle.lb_types.proofs.server_set.ServerSet.with.Goals as goal

pub returns-clause-members : goal.returns-clause-members
returns-clause-members c s =
    let one = one_shl c.index.result 128 c.index.ensures.below_limit in
    rw (one, c.self.view_is, c.index.ensures.exact) (has-with c.args.self c.args.server s)

pub returns-clause-exact : goal.returns-clause-exact
returns-clause-exact c =
    let one = one_shl c.index.result 128 c.index.ensures.below_limit in
    rw (one, c.self.view_is, c.index.ensures.exact)
