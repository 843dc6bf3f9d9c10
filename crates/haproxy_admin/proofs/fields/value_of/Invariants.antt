use Rattle.std.proofs.Common.{◌≡◌, length}
use Rattle.haproxy_admin.specs.Fields.{value_of, words_after}
use Rattle.haproxy_admin.proofs.fields.value_of.Given as goal

abbrev pub invariant-loop-word : goal.invariant-loop-word
invariant-loop-word l = value_of l.fn.name l.words ≡ value_of l.fn.name (words_after l.fn.rest)

abbrev pub decreases-loop-word : goal.decreases-loop-word
decreases-loop-word l = length l.words
