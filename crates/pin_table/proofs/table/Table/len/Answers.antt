use Rattle.std.proofs.Common.{subst}
use Rattle.pin_table.specs.Tables.{IsTable}
use Rattle.pin_table.proofs.Apart.{all-pairs}
use Rattle.pin_table.proofs.table.Table.len.Goals as goal

pub returns-clause-lawful : goal.returns-clause-lawful
returns-clause-lawful g c = subst IsTable c.self.view_is record {
  distinct = all-pairs c.self.inside.pins.pins c.len.ensures.apart;
  few = c.self.invariant.few;
  size_from = c.self.invariant.size_from;
  size_to = c.self.invariant.size_to;
}
