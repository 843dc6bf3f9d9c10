-- The lines of an answer, and the heads that they make: RFC 9112, sections 2.1 and 2.2; RFC 9110, section 15.2.
use Rattle.std.specs.Prelude.{ℕ, ◌-◌, Bool, nat_eq, ◌==◌, not, List, [], ◌∷◌, length, take, map, Option, if◌then◌else◌}
use Rattle.std.specs.List.{ends_with, slice_split, find, slice_index_or}
use Rattle.lb_types_text.specs.Parts.{parts}
use Rattle.set_cookie.specs.StatusLines.{is_interim}

-- all but the last, which has no end yet
abbrev pub ended : {X : Type 0} → List X → List X
ended parts = take (length parts - 1) parts

-- a line without the CR before its LF
abbrev pub line_text : List ℕ → List ℕ
line_text line = if ends_with nat_eq line (13 ∷ []) then take (length line - 1) line else line

-- the lines that end in these bytes
unfoldable pub lines_of : List ℕ → List (List ℕ)
lines_of bytes = map line_text (ended (parts 10 bytes))

-- a line of no byte ends a head
abbrev pub is_empty : List ℕ → Bool
is_empty line = length line == 0

-- the heads, each as its lines, if what follows one were another
unfoldable pub heads : List (List ℕ) → List (List (List ℕ))
heads lines = ended (slice_split is_empty lines)

-- its status line
abbrev pub first_line : List (List ℕ) → List ℕ
first_line head = slice_index_or head 0 []

-- the first head that isn't an interim one, where it has come whole
unfoldable pub final_head : List ℕ → Option (List (List ℕ))
final_head bytes = find (λ head. not (is_interim (first_line head))) (heads (lines_of bytes))
