-- A line of words, as contracts see it.
use Rattle.std.specs.Prelude.{ℕ, List, Option}
use Rattle.lb_config_words.specs.declared.fault.SpellingFault.{SpellingFault}

-- its number in the text, its words from the left, and why its spelling breaks off behind them, if it does
pub record LineView : Type 0 where
  pub number : ℕ
  pub words : List (List ℕ)
  pub ending : Option SpellingFault
