use Rattle.std.proofs.Common.{◌&&◌, ap, arith}
use Rattle.lb_types_pins.specs.Kinds.{same_place}
use Rattle.pin_set.specs.Rows.{rows_pins}
use Rattle.cert_check.proofs.Bounds.{part-le-pins}
use Rattle.lb_cli_tables.proofs.tables.push_move.Goals as goal

pub pins_between-pins-requires : goal.pins_between-pins-requires
pins_between-pins-requires c =
    let part = part-le-pins (λ r. same_place r.kind.place c.args.from && same_place r.new_place c.args.to) c.rows.result.now in
    omega (arith, part, ap rows_pins c.rows.ensures.exact, c.rows.ensures.lawful.total)
