use Rattle.std.proofs.Common.{take}
use Rattle.dual_cert_text.specs.Spellings.{line_of_words}
use Rattle.dual_cert_write.specs.Sending.{Sends, words_of}
use Rattle.dual_cert_write.proofs.sending.send_words.Given as goal

abbrev pub invariant-loop-word : goal.invariant-loop-word
invariant-loop-word g l = Sends l.fn.out l.fn.sent l.out l.sent (line_of_words (words_of l.fn.first (take l.word-index l.more)))
