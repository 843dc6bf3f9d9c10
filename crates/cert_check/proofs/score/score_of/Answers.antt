use Rattle.std.proofs.Common.{arith}
use Rattle.std.specs.Prelude.{is_none}
use Rattle.pin_set.specs.Costs.{is_moved}
use Rattle.cert_check.proofs.Bounds.{part-le-pins, spent-fits}
use Rattle.cert_check.proofs.score.score_of.Goals as goal

pub unplaced-requires : goal.unplaced-requires
unplaced-requires c = omega (arith, part-le-pins (λ r. is_none r.new_place) c.args.rows.now)

pub moved-requires : goal.moved-requires
moved-requires c = omega (arith, part-le-pins (λ r. is_moved r.kind r.new_place) c.args.rows.now)

pub spent-requires : goal.spent-requires
spent-requires c = omega (arith, spent-fits c.args.rows.now c.requires)
