use Rattle.haproxy_commands.proofs.Pushes.{command_one, command_more}
use Rattle.haproxy_commands.proofs.writing.push_command.Goals as goal

pub loop-word-init : goal.loop-word-init
loop-word-init c = rw command_one c.in_ok-push_word.ensures

pub loop-word-preserved : goal.loop-word-preserved
loop-word-preserved c =
    rw c.in_ok-push_next.ensures (command_more _ _ _ _ _ _ c.loop-word-test.true c.loop-word.invariant)
