-- When one word is taken for another: they are equal up to some place, and there one letter is too many, missing, another one, or swapped
-- with the next (Damerau, 1964: the four kinds of single errors).
use Rattle.std.specs.Prelude.{ℕ, Bool, false, ◌&&◌, ◌||◌, ◌==◌, List, [], ◌∷◌, length, bytes_eq, if◌then◌else◌}

-- the two words begin with these letters the other way round, and are equal behind them
abbrev pub are_swapped : List ℕ → List ℕ → Bool
are_swapped (a ∷ b ∷ more) (c ∷ d ∷ others) = a == d && (b == c && bytes_eq more others)
are_swapped _ _ = false

-- the words are one letter apart
unfoldable pub is_near : List ℕ → List ℕ → Bool
is_near [] known = length known == 1
is_near (a ∷ word) [] = length word == 0
is_near (a ∷ word) (b ∷ known) =
    if a == b then is_near word known
    else bytes_eq word known || (bytes_eq word (b ∷ known) || (bytes_eq (a ∷ word) known || are_swapped (a ∷ word) (b ∷ known)))
