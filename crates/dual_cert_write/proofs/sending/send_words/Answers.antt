use Rattle.dual_cert_write.proofs.Sends.{Sends-word}
use Rattle.dual_cert_write.proofs.sending.send_words.Goals as goal

pub loop-word-preserved : goal.loop-word-preserved
loop-word-preserved g c =
    Sends-word _ _ _ _ _ _ _ _ c.args.first.now c.args.more.now c.loop-word.word-index _ c.loop-word-test.true c.loop-word.invariant c.send-sent-in-loop-word.ensures c.send-sent-in-loop-word-2.ensures
