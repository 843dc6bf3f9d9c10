use Rattle.haproxy_commands.proofs.Pushes.{word_more, word_none}
use Rattle.haproxy_commands.proofs.writing.push_word.Goals as goal

pub loop-byte-init : goal.loop-byte-init
loop-byte-init c = word_none _

pub loop-byte-preserved : goal.loop-byte-preserved
loop-byte-preserved c =
    rw c.in_ok-push_byte.ensures (word_more _ _ _ _ _ c.loop-byte-test.true c.loop-byte.invariant)
