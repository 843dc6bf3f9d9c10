use Rattle.std.proofs.Common.{◌≡◌, take, sum_by}
use Rattle.lb_types_pins.specs.declared.kind.PinKind.{PinKind}
use Rattle.pin_set.specs.Rows.{count_in}
use Rattle.pin_groups.specs.Rising.{AreRising}
use Rattle.sheet_format.proofs.merging.merged.Given as goal

abbrev pub invariant-loop-group : goal.invariant-loop-group
invariant-loop-group l =
    AreRising l.all.items
    × ((kind : PinKind) → count_in l.all.items kind ≡ count_in (take l.group-index l.groups) kind)
    × (sum_by (λ g. g.count) l.all.items ≡ sum_by (λ g. g.count) (take l.group-index l.groups))
