use Rattle.std.proofs.Common.{take}
use Rattle.pin_groups.specs.Counts.{AreGroupsOfCounts}
use Rattle.pin_groups.specs.Rising.{AreRising}
use Rattle.pin_groups.proofs.counted.groups_counted.Given as goal

abbrev pub invariant-loop-counted : goal.invariant-loop-counted
invariant-loop-counted l =
    AreRising l.groups.items
    × AreGroupsOfCounts l.usable l.groups.items (take l.counted-index l.counts)
