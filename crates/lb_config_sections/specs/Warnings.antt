-- Warnings of ignored lines. What they name is this project's own.
use Rattle.std.specs.Prelude.{ℕ, List, [], ◌∷◌, ◌++◌}
use Rattle.lb_config_lines.specs.declared.statement.IgnoredWords.{IgnoredWords}
use Rattle.lb_config_lines.specs.declared.statement.IgnoredWords.TheVariants.{First, FirstTwo}
use Rattle.lb_config_words.specs.LineView.{LineView}
use Rattle.lb_config_sections.specs.declared.warning.Warning.{Warning}

-- a space and the next word
abbrev pub second_text : List (List ℕ) → List ℕ
second_text [] = []
second_text (word ∷ rest) = 32 ∷ word

-- the line's first word, or its first two
unfoldable pub ignored_text : IgnoredWords → List (List ℕ) → List ℕ
ignored_text which [] = []
ignored_text First (word ∷ rest) = word
ignored_text FirstTwo (word ∷ rest) = word ++ second_text rest

-- the warning of the line
abbrev pub warning_of : IgnoredWords → LineView → Warning
warning_of which line = record { line = line.number; words = ignored_text which line.words }
