-- The lines of a script, and those of a plan's text within it. The layout is our own.
use Rattle.std.specs.Prelude.{ℕ, Bool, ◌==◌, List, [], ◌∷◌, codes, if◌then◌else◌}
use Rattle.std.specs.Str.{bytes_eq}
use Rattle.std.specs.Io.BufRead.{strip_last}

-- the lines with a byte before them, which begins the first one, or is a line of its own where it is a line feed (10)
abbrev pub with_byte : ℕ → List (List ℕ) → List (List ℕ)
with_byte byte [] = (byte ∷ []) ∷ []
with_byte byte (line ∷ lines) = if byte == 10 then (byte ∷ []) ∷ line ∷ lines else (byte ∷ line) ∷ lines

-- the lines of a text, each with the line feed at its end. The last one may have none; behind the last line feed stands no line
unfoldable pub lines_of : List ℕ → List (List ℕ)
lines_of [] = []
lines_of (byte ∷ text) = with_byte byte (lines_of text)

-- a line without its end
abbrev pub without_end : List ℕ → List ℕ
without_end line = strip_last 10 line

-- the line that ends a plan's text
abbrev pub is_end : List ℕ → Bool
is_end line = bytes_eq line (codes "end\n")

-- the lines up to the first line `end`, and that one; all of them where there is none
abbrev pub through_end : List (List ℕ) → List (List ℕ)
through_end [] = []
through_end (line ∷ lines) = if is_end line then line ∷ [] else line ∷ through_end lines

-- the lines behind it; nothing where there is none
abbrev pub behind_end : List (List ℕ) → List (List ℕ)
behind_end [] = []
behind_end (line ∷ lines) = if is_end line then lines else behind_end lines
