use Rattle.haproxy_commands.proofs.writing.push_set.Goals as goal

pub returns : goal.returns
returns c = rw (c.as_bytes-number.ensures.value, c.format.ensures.text) at c.push_command.ensures
