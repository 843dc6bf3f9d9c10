use Rattle.std.proofs.Common.{◌≡◌, ◌-◌, ◌≤◌, length}
use Rattle.lb_config_words.specs.Words.{groups, at_most, behind, spelled_of}
use Rattle.lb_config_words.proofs.spelling.spell.Given as goal

abbrev pub invariant-loop-first : goal.invariant-loop-first
invariant-loop-first l =
    (behind l.words.items (at_most (64 - length l.words.items) (groups l.pieces)) ≡ spelled_of l.fn.line) × (length l.words.items ≤ 64)

abbrev pub decreases-loop-first : goal.decreases-loop-first
decreases-loop-first l = length l.pieces
