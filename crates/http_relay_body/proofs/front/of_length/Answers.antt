use Rattle.std.proofs.Common.{arith, le_refl, length}
use Rattle.http_relay_body.proofs.Fronts.{length_some}
use Rattle.http_relay_body.proofs.front.of_length.Goals as goal

pub returns-clause-front : goal.returns-clause-front
returns-clause-front c =
    length_some c.args.count (length c.args.behind.now) c.args.behind.now (omega (arith, c.if-count-here.false)) (le_refl (length c.args.behind.now))
