use Rattle.std.proofs.Common.{◌≡◌, ℕ, ◌<◌, arith}
use Rattle.std.specs.Int.{w128, bit_at}
use Rattle.std.proofs.lemmas.Bool.Decides.{nat_tests}
use Rattle.std.proofs.lemmas.Nat.Bits.{bit_at-trailing_zeros}
use Rattle.lb_types.specs.Servers.{has}
use Rattle.lb_types.proofs.server_set.ServerSet.first.Goals as goal

pub returns-clause-member : goal.returns-clause-member
unfolding has
returns-clause-member c =
    let low = bit_at-trailing_zeros w128 c.self.inside.bits (omega arith) (omega arith) in
    rw (← c.self.view_is, c.new.ensures, low.1)

pub returns-clause-least : goal.returns-clause-least
unfolding has
returns-clause-least c s below =
    let low = bit_at-trailing_zeros w128 c.self.inside.bits (omega arith) (omega arith) in
    let before : s < Rattle.std.specs.Int.trailing_zeros w128 c.self.inside.bits = omega (arith, c.new.ensures) in
    rw (← c.self.view_is, low.2 s before)
