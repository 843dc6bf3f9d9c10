-- The words of a line in a lenient text.
use Rattle.std.specs.Prelude.{ℕ, Bool, ◌==◌, ◌||◌, not, List, [], length, get_or}
use Rattle.std.specs.List.{filter, slice_split}
use Rattle.lb_types_text.specs.Parts.{parts}

-- a space, a tab or a carriage return
abbrev pub is_blank : ℕ → Bool
is_blank byte = byte == 32 || byte == 9 || byte == 13

-- the word has a byte
abbrev pub is_filled : List ℕ → Bool
is_filled word = not (length word == 0)

-- what stands between the blanks, where that is something
unfoldable pub words_of : List ℕ → List (List ℕ)
words_of bytes = filter is_filled (slice_split is_blank bytes)

-- the bytes of a line before its first `#`, where a comment begins
abbrev pub before_comment : List ℕ → List ℕ
before_comment line = get_or (parts 35 line) 0 []

-- the words of a line
abbrev pub line_words : List ℕ → List (List ℕ)
line_words line = words_of (before_comment line)
