-- How a hint is spelled.
use Rattle.std.specs.Prelude.{ℕ, List, ◌++◌, codes}
use Rattle.lb_config_hints.specs.declared.hint.Hint.{Hint}
use Rattle.lb_config_hints.specs.declared.hint.Hint.TheVariants.{Says, Meant}

-- the words of a hint: what it says, or which word was meant
abbrev pub hint_words : Hint → List ℕ
hint_words (Says words) = words.now
hint_words (Meant word) = codes "did you mean " ++ word.now ++ codes "?"
