-- One word at the front of the pieces. No public clause cites this module.
use Rattle.std.specs.Prelude.{List, [], ◌∷◌}
use Rattle.lb_config_words.specs.declared.piece.Piece.{Piece}
use Rattle.lb_config_words.specs.declared.piece.Piece.TheVariants.{Gap}

-- what stands before the first gap
abbrev pub first_group : List Piece → List Piece
first_group [] = []
first_group (Gap ∷ rest) = []
first_group (piece ∷ rest) = piece ∷ first_group rest

-- what stands behind the first gap
abbrev pub after_group : List Piece → List Piece
after_group [] = []
after_group (Gap ∷ rest) = rest
after_group (piece ∷ rest) = after_group rest
