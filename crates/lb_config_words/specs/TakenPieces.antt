-- A piece taken from bytes, and the bytes behind it. No public clause cites this module.
use Rattle.std.specs.Prelude.{◌≡◌, Option, Some, None, List, [], ◌∷◌}
use Rattle.lb_config_words.specs.declared.piece.Piece.{Piece}
use Rattle.lb_config_words.specs.declared.piece.Taken.{Taken}
use Rattle.lb_config_words.specs.Pieces.{pieces}

-- the pieces are the one taken and those of the bytes behind it
abbrev pub TakesOne : Taken → List Piece → Type 0
TakesOne taken all = all ≡ taken.piece ∷ pieces taken.quoting taken.rest.now

-- a piece was taken, or there is none
abbrev pub Takes : Option Taken → List Piece → Type 0
Takes (Some taken) all = TakesOne taken all
Takes None all = all ≡ []
