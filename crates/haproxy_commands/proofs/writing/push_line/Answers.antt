use Rattle.haproxy_commands.proofs.Pushes.{pair_pushed}
use Rattle.haproxy_commands.proofs.writing.push_line.Goals as goal

pub returns-clause-line : goal.returns-clause-line
returns-clause-line c =
    rw (c.in_ok-push-2.ensures.items, c.in_ok-push_set.ensures, c.in_ok-push.ensures.items, c.in_ok-push_clear.ensures) (pair_pushed _ _ _)
