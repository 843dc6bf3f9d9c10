-- A script as far as it was read, line by line.
use Rattle.std.specs.Prelude.{◌≡◌, ℕ, ⊤, ◌+◌, Option, Some, None, List, [], ◌∷◌, ◌++◌, length, flat_map}
use Rattle.lb_replay_lines.specs.Lines.{through_end, behind_end}

pub record ReadingView : Type 0 where
  -- the lines that are left, where they are known
  pub left : Option (List (List ℕ))
  -- what was read last: a line, or the lines of a plan's text
  pub piece : List ℕ
  -- the number of the first line of that, from 1 on
  pub first : ℕ
  -- how many lines were read
  pub count : ℕ

-- the script before its first line
abbrev pub unread : Option (List (List ℕ)) → ReadingView
unread left = record { left = left; piece = []; first = 0; count = 0 }

-- the next line stands behind what was in the piece, and these are left behind it
abbrev pub AddsLine : Option (List (List ℕ)) → List ℕ → List ℕ → Option (List (List ℕ)) → Type 0
AddsLine None old piece left = ⊤
AddsLine (Some lines) old piece left =
    (line : List ℕ) × (more : List (List ℕ)) × (lines ≡ line ∷ more) × (piece ≡ old ++ line) × (left ≡ Some more)

-- the next line was read
pub record ReadsLine (old new : ReadingView) : Type 0 where
  pub line : AddsLine old.left [] new.piece new.left
  pub first : new.first ≡ old.count + 1
  pub count : new.count ≡ old.count + 1

-- no line is left, and the piece is as it was
abbrev pub AtEnd : Option (List (List ℕ)) → List ℕ → List ℕ → Option (List (List ℕ)) → Type 0
AtEnd None old piece left = ⊤
AtEnd (Some lines) old piece left = (lines ≡ []) × (piece ≡ old) × (left ≡ Some [])

-- no line is left
abbrev pub IsReadWhole : Option (List (List ℕ)) → Type 0
IsReadWhole None = ⊤
IsReadWhole (Some lines) = lines ≡ []

-- the lines through `end` were added to the piece
abbrev pub AddsThroughEnd : Option (List (List ℕ)) → ReadingView → ReadingView → Type 0
AddsThroughEnd None old new = ⊤
AddsThroughEnd (Some lines) old new =
    (new.left ≡ Some (behind_end lines)) × (new.piece ≡ old.piece ++ flat_map (λ line. line) (through_end lines))
    × (new.count ≡ old.count + length (through_end lines))
