use Rattle.std.proofs.Common.{◌≡◌, take}
use Rattle.pin_table.specs.declared.table_kind.TableKind.{TableKind}
use Rattle.pin_table.specs.Kinds.{counted_of}
use Rattle.pin_table.specs.Placing.{arriving}
use Rattle.pin_table.proofs.placing.counts_after.Given as goal

-- the moves so far are counted
abbrev pub invariant-loop-a_move : goal.invariant-loop-a_move
invariant-loop-a_move l = (kind : TableKind) → counted_of l.counts kind ≡ arriving (take l.a_move-index l.moves) kind
