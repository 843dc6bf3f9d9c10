use Rattle.std.proofs.Common.{◌≡◌, length}
use Rattle.std.specs.List.{list_all}
use Rattle.haproxy_admin.specs.Fields.{is_field, words_after}
use Rattle.haproxy_admin.proofs.fields.are_fields.Given as goal

abbrev pub invariant-loop-word : goal.invariant-loop-word
invariant-loop-word l = list_all is_field l.words ≡ list_all is_field (words_after l.fn.rest)

abbrev pub decreases-loop-word : goal.decreases-loop-word
decreases-loop-word l = length l.words
