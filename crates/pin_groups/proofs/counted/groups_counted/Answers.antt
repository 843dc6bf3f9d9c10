use Rattle.std.proofs.Common.{arith}
use Rattle.pin_groups.proofs.Tally.{tally-fits, tally_put, tally_skip}
use Rattle.pin_groups.proofs.counted.groups_counted.Goals as goal
use Rattle.pin_groups.proofs.counted.groups_counted.Goals.{then-counted-gt0+in_ok-put, else-counted-gt0}

pub put-requires-clause-fits : goal.put-requires-clause-fits
put-requires-clause-fits c =
    tally-fits c.args.usable c.args.counts.now c.loop-counted.counted-index c.counted-item.result c.loop-counted.groups.items c.group_counted.result
    (omega arith) c.counted-item.is c.group_counted.ensures.kind c.group_counted.ensures.count c.requires c.loop-counted.invariant.1

pub loop-counted-preserved : goal.loop-counted-preserved
loop-counted-preserved c =
    elim c.if-counted-gt0.branch [
      | then-counted-gt0+in_ok-put w ↦
          rw w.groups-is (
            w.in_ok-put.ensures.rising,
            tally_put c.args.usable c.args.counts.now c.loop-counted.counted-index c.counted-item.result c.loop-counted.groups.items w.put.new.groups.items w.group_counted.result
                (omega arith) c.counted-item.is w.group_counted.ensures.kind w.group_counted.ensures.count c.loop-counted.invariant.1 w.in_ok-put.ensures.counts,
          )
      | else-counted-gt0 w ↦
          rw w.groups-is (
            c.loop-counted.invariant.0,
            tally_skip c.args.usable c.args.counts.now c.loop-counted.counted-index c.counted-item.result c.loop-counted.groups.items
                (omega arith) c.counted-item.is (omega arith) c.loop-counted.invariant.1,
          )
    ]
