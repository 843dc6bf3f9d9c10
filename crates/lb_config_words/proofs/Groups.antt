-- Pieces cut into groups, and groups read as words.
use Rattle.std.proofs.Common.{◌≡◌, ℕ, ◌+◌, ◌-◌, ◌<◌, ◌≤◌, false, not, ◌==◌, Option, Some, None, List, [], ◌∷◌, ◌++◌, Ok, Err, length, refl, sym, ap, ◌∙◌, arith}
use Rattle.std.specs.Prelude.{Result}
use Rattle.std.specs.List.{filter, slice_split}
use Rattle.std.proofs.lemmas.List.{append_assoc, append-nil}
use Rattle.std.proofs.lemmas.Bool.Decides.{nat_tests}
use Rattle.lb_config_words.specs.declared.fault.SpellingFault.{SpellingFault}
use Rattle.lb_config_words.specs.declared.fault.SpellingFault.TheVariants.{TooManyWords}
use Rattle.lb_config_words.specs.declared.piece.Piece.{Piece}
use Rattle.lb_config_words.specs.declared.piece.Piece.TheVariants.{Gap, Mark, Letter, Broken}
use Rattle.lb_config_words.specs.Words.{Spelled, is_gap, groups, word_of, with_front, behind, broken, at_most}
use Rattle.lb_config_words.specs.WordResults.{first_group, after_group}

-- words and an ending
abbrev the_spelled : List (List ℕ) → Option SpellingFault → Spelled
the_spelled words ending = record { words = words; ending = ending }

-- front after front
pub with_front_more : (front more : List ℕ) (word : Result (List ℕ) SpellingFault) → with_front front (with_front more word) ≡ with_front (front ++ more) word
with_front_more front more (Ok word) = ap (λ w. Ok w) (sym (append_assoc front more word))
with_front_more front more (Err fault) = refl

pub with_front_nil : (front : List ℕ) → with_front front (Ok []) ≡ Ok front
with_front_nil front = ap (λ w. Ok w) (append-nil front)

-- what is cut behind the first gap
abbrev later : List Piece → List (List Piece)
later [] = []
later (Gap ∷ rest) = slice_split is_gap rest
later (piece ∷ rest) = later rest

split_first : (pieces : List Piece) → slice_split is_gap pieces ≡ first_group pieces ∷ later pieces
split_first [] = refl
split_first (Gap ∷ rest) = refl
split_first (Mark ∷ rest) = rw (split_first rest) refl
split_first (Letter byte ∷ rest) = rw (split_first rest) refl
split_first (Broken fault ∷ rest) = rw (split_first rest) refl

later_groups : (pieces : List Piece) → filter (λ group. not (length group == 0)) (later pieces) ≡ groups (after_group pieces)
later_groups [] = refl
later_groups (Gap ∷ rest) = refl
later_groups (Mark ∷ rest) = later_groups rest
later_groups (Letter byte ∷ rest) = later_groups rest
later_groups (Broken fault ∷ rest) = later_groups rest

-- what is not empty is kept
kept : (piece : Piece) (group : List Piece) (more : List (List Piece)) → filter (λ g. not (length g == 0)) ((piece ∷ group) ∷ more) ≡ (piece ∷ group) ∷ filter (λ g. not (length g == 0)) more
kept piece group more = let some : (length (piece ∷ group) == 0) ≡ false = grind (arith, nat_tests) in rw some refl

-- a piece that is no gap begins a group
groups_word : (piece : Piece) (rest : List Piece) → is_gap piece ≡ false → groups (piece ∷ rest) ≡ first_group (piece ∷ rest) ∷ groups (after_group (piece ∷ rest))
groups_word Gap rest other = grind (arith, nat_tests, other)
groups_word Mark rest other = rw (split_first rest) (kept Mark (first_group rest) (later rest) ∙ ap (λ more. (Mark ∷ first_group rest) ∷ more) (later_groups rest))
groups_word (Letter byte) rest other = rw (split_first rest) (kept (Letter byte) (first_group rest) (later rest) ∙ ap (λ more. (Letter byte ∷ first_group rest) ∷ more) (later_groups rest))
groups_word (Broken fault) rest other = rw (split_first rest) (kept (Broken fault) (first_group rest) (later rest) ∙ ap (λ more. (Broken fault ∷ first_group rest) ∷ more) (later_groups rest))

behind_behind : (front more : List (List ℕ)) (spelled : Spelled) → behind front (behind more spelled) ≡ behind (front ++ more) spelled
behind_behind front more spelled = ap (λ words. the_spelled words spelled.ending) (sym (append_assoc front more spelled.words))

-- nothing behind the words but an ending
behind_nothing : (front : List (List ℕ)) (ending : Option SpellingFault) → behind front (the_spelled [] ending) ≡ the_spelled front ending
behind_nothing front ending = ap (λ words. the_spelled words ending) (append-nil front)

-- room for a word, which is there, and so is room for the words behind it
room_left : (front : List (List ℕ)) → length front < 64 → ((64 - length front) == 0) ≡ false
room_left front few = grind (arith, nat_tests)

one_word : (front : List (List ℕ)) (word : List ℕ) (group : List Piece) (more : List (List Piece)) → length front < 64 → word_of group ≡ Ok word →
    at_most (64 - length front) (group ∷ more) ≡ behind (word ∷ []) (at_most (64 - (length front + 1)) more)
unfolding at_most
one_word front word group more few read =
    let less : 64 - length front - 1 ≡ 64 - (length front + 1) = omega arith in
    rw (room_left front few, read, less) refl

one_fault : (front : List (List ℕ)) (fault : SpellingFault) (group : List Piece) (more : List (List Piece)) → length front < 64 → word_of group ≡ Err fault →
    at_most (64 - length front) (group ∷ more) ≡ broken fault
unfolding at_most
one_fault front fault group more few read = rw (room_left front few, read) refl

no_room : (group : List Piece) (more : List (List Piece)) (room : ℕ) → room ≡ 0 → at_most room (group ∷ more) ≡ broken TooManyWords
unfolding at_most
no_room group more room none = rw none refl

-- words in front of the pieces that a gap begins
pub reads_gap : (front : List (List ℕ)) (rest : List Piece) → behind front (at_most (64 - length front) (groups (Gap ∷ rest))) ≡ behind front (at_most (64 - length front) (groups rest))
reads_gap front rest = refl

-- words in front of the pieces that a word begins
pub reads_word : (front : List (List ℕ)) (word : List ℕ) (piece : Piece) (rest : List Piece) → is_gap piece ≡ false → length front < 64 → word_of (first_group (piece ∷ rest)) ≡ Ok word →
    behind front (at_most (64 - length front) (groups (piece ∷ rest))) ≡ behind (front ++ word ∷ []) (at_most (64 - (length front + 1)) (groups (after_group (piece ∷ rest))))
reads_word front word piece rest other few read =
    let more = groups (after_group (piece ∷ rest)) in
    ap (λ all. behind front (at_most (64 - length front) all)) (groups_word piece rest other)
    ∙ ap (λ spelled. behind front spelled) (one_word front word (first_group (piece ∷ rest)) more few read)
    ∙ behind_behind front (word ∷ []) (at_most (64 - (length front + 1)) more)

-- words in front of the pieces that break off in their first word
pub reads_fault : (front : List (List ℕ)) (fault : SpellingFault) (piece : Piece) (rest : List Piece) → is_gap piece ≡ false → length front < 64 → word_of (first_group (piece ∷ rest)) ≡ Err fault →
    behind front (at_most (64 - length front) (groups (piece ∷ rest))) ≡ the_spelled front (Some fault)
reads_fault front fault piece rest other few read =
    ap (λ all. behind front (at_most (64 - length front) all)) (groups_word piece rest other)
    ∙ ap (λ spelled. behind front spelled) (one_fault front fault (first_group (piece ∷ rest)) (groups (after_group (piece ∷ rest))) few read)
    ∙ behind_nothing front (Some fault)

-- as many words as may be, in front of one more
pub reads_too_many : (front : List (List ℕ)) (piece : Piece) (rest : List Piece) → is_gap piece ≡ false → length front ≡ 64 →
    behind front (at_most (64 - length front) (groups (piece ∷ rest))) ≡ the_spelled front (Some TooManyWords)
reads_too_many front piece rest other many =
    ap (λ all. behind front (at_most (64 - length front) all)) (groups_word piece rest other)
    ∙ ap (λ spelled. behind front spelled) (no_room (first_group (piece ∷ rest)) (groups (after_group (piece ∷ rest))) (64 - length front) (omega (arith, many)))
    ∙ behind_nothing front (Some TooManyWords)

-- words in front of nothing
pub reads_end : (front : List (List ℕ)) → behind front (at_most (64 - length front) (groups [])) ≡ the_spelled front None
unfolding at_most
reads_end front = behind_nothing front None

after_less : (pieces : List Piece) → length (after_group pieces) ≤ length pieces
after_less [] = omega arith
after_less (Gap ∷ rest) = omega arith
after_less (Mark ∷ rest) = omega (arith, after_less rest)
after_less (Letter byte ∷ rest) = omega (arith, after_less rest)
after_less (Broken fault ∷ rest) = omega (arith, after_less rest)

-- a word uses up what it is read from
pub after_group_less : (piece : Piece) (rest : List Piece) → length (after_group (piece ∷ rest)) ≤ length rest
after_group_less Gap rest = omega arith
after_group_less Mark rest = after_less rest
after_group_less (Letter byte) rest = after_less rest
after_group_less (Broken fault) rest = after_less rest
