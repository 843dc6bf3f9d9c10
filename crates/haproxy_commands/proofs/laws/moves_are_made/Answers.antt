use Rattle.haproxy_commands.proofs.Carried.{moved_entries, other_entries, other_tables}
use Rattle.haproxy_commands.proofs.laws.moves_are_made.Goals as goal

pub returns-clause-moved : goal.returns-clause-moved
returns-clause-moved c = moved_entries

pub returns-clause-others : goal.returns-clause-others
returns-clause-others c = other_entries

pub returns-clause-tables : goal.returns-clause-tables
returns-clause-tables c = other_tables
