-- What is left of a line: HAProxy Configuration Manual 2.8, sections 2.1 and 2.2.
use Rattle.std.specs.Prelude.{ℕ, List, Option}
use Rattle.lb_config_words.specs.declared.fault.SpellingFault.{SpellingFault}

-- the words that are not yet read, and why the line's spelling breaks off behind them, if it does
pub record Rest : Type 0 where
  pub words : List (List ℕ)
  pub ending : Option SpellingFault
