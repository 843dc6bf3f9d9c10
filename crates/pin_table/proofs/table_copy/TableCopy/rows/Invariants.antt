use Rattle.std.proofs.Common.{◌≡◌, ◌++◌}
use Rattle.pin_table.specs.Counted.{listed}
use Rattle.pin_table.proofs.table_copy.TableCopy.rows.Given as goal

-- with what is still to come all pins are listed
abbrev pub invariant-loop-name : goal.invariant-loop-name
invariant-loop-name g l = l.rows.items ++ listed l.name-iterator ≡ listed l.initial.name-iterator
