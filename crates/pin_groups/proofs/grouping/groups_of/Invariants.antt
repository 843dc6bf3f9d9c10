use Rattle.std.proofs.Common.{◌≡◌, take, map, count_by}
use Rattle.lb_types_pins.specs.declared.kind.PinKind.{PinKind}
use Rattle.lb_types_pins.specs.Kinds.{same_kind}
use Rattle.pin_set.specs.Rows.{count_in}
use Rattle.pin_set.specs.Views.{kind_of}
use Rattle.pin_groups.specs.Rising.{AreRising}
use Rattle.pin_groups.proofs.grouping.groups_of.Given as goal

abbrev pub invariant-loop-pin : goal.invariant-loop-pin
invariant-loop-pin l =
    AreRising l.groups.items × ((kind : PinKind) → count_in l.groups.items kind ≡ count_by (same_kind kind) (take l.pin-index (map (kind_of l.usable) l.pins)))
