use Rattle.haproxy_commands.proofs.Plain.{name_is_plain}
use Rattle.haproxy_commands.proofs.laws.names_are_written_as_they_are.Goals as goal

pub returns : goal.returns
returns c = name_is_plain
