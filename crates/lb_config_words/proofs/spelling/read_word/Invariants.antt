use Rattle.std.proofs.Common.{◌≡◌, [], ◌∷◌, ◌++◌, length, IfNone}
use Rattle.std.specs.Option.{option_to_list}
use Rattle.lb_config_words.specs.Words.{word_of, with_front}
use Rattle.lb_config_words.specs.WordResults.{first_group, after_group}
use Rattle.lb_config_words.proofs.spelling.read_word.Given as goal

abbrev pub invariant-loop-next : goal.invariant-loop-next
invariant-loop-next l =
    (with_front l.bytes.items (word_of (first_group (option_to_list l.next ++ l.pieces))) ≡ word_of (first_group (l.fn.first ∷ l.fn.pieces)))
    × (after_group (option_to_list l.next ++ l.pieces) ≡ after_group (l.fn.first ∷ l.fn.pieces))
    × IfNone l.next (l.pieces ≡ [])

abbrev pub decreases-loop-next : goal.decreases-loop-next
decreases-loop-next l = length (option_to_list l.next ++ l.pieces)
