use Rattle.std.proofs.Common.{◌≡◌, length}
use Rattle.lb_config_arguments.specs.Reading.{each_word}
use Rattle.lb_config_conditions.specs.AclLines.{acl_word, no_acl}
use Rattle.lb_config_conditions.proofs.acl_draft.read_draft.Given as goal

abbrev pub invariant-loop-acl : goal.invariant-loop-acl
invariant-loop-acl l = each_word acl_word l.acl l.words ≡ each_word acl_word no_acl l.fn.words

abbrev pub decreases-loop-acl : goal.decreases-loop-acl
decreases-loop-acl l = length l.words.words
