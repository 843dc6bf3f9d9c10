use Rattle.std.proofs.Common.{arith}
use Rattle.sheet_format.proofs.Sheets.{fits_counted, more_pins, put_counted, skip_counted}
use Rattle.sheet_format.proofs.merging.merged.Goals as goal
use Rattle.sheet_format.proofs.merging.merged.Goals.{then-group-gt0+in_ok-put, else-group-gt0}

pub put-requires-clause-fits : goal.put-requires-clause-fits
put-requires-clause-fits c =
    fits_counted c.args.groups.now c.loop-group.all.items c.loop-group.group-index c.group-item.result
    (omega arith) c.group-item.is c.requires c.loop-group.invariant.1

pub loop-group-preserved : goal.loop-group-preserved
loop-group-preserved c =
    let pins = more_pins c.args.groups.now c.loop-group.group-index c.group-item.result (omega arith) c.group-item.is in
    elim c.if-group-gt0.branch [
      | then-group-gt0+in_ok-put w ↦
          rw w.all-is (
            w.in_ok-put.ensures.rising,
            put_counted c.args.groups.now c.loop-group.all.items w.put.new.groups.items c.loop-group.group-index c.group-item.result
                (omega arith) c.group-item.is c.loop-group.invariant.1 w.in_ok-put.ensures.counts,
            omega (arith, w.in_ok-put.ensures.total),
          )
      | else-group-gt0 w ↦
          rw w.all-is (
            c.loop-group.invariant.0,
            skip_counted c.args.groups.now c.loop-group.all.items c.loop-group.group-index c.group-item.result
                (omega arith) c.group-item.is (omega arith) c.loop-group.invariant.1,
            omega arith,
          )
    ]
