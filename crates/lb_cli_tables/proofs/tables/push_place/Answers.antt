use Rattle.std.proofs.Common.{ap, arith}
use Rattle.lb_types_pins.specs.Kinds.{same_place}
use Rattle.pin_set.specs.Rows.{rows_pins}
use Rattle.cert_check.proofs.Bounds.{part-le-pins}
use Rattle.lb_cli_tables.proofs.tables.push_place.Goals as goal

pub pins_at-before-requires : goal.pins_at-before-requires
pins_at-before-requires c =
    let part = part-le-pins (λ r. same_place r.kind.place c.args.place) c.rows.result.now in
    omega (arith, part, ap rows_pins c.rows.ensures.exact, c.rows.ensures.lawful.total)

pub pins_to-after-requires : goal.pins_to-after-requires
pins_to-after-requires c =
    let part = part-le-pins (λ r. same_place r.new_place c.args.place) c.rows-2.result.now in
    omega (arith, part, ap rows_pins c.rows-2.ensures.exact, c.rows-2.ensures.lawful.total)
