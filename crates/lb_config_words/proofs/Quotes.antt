-- Quotes that close.
use Rattle.std.proofs.Common.{◌≡◌, ℕ, List, [], ◌∷◌, drop, refl}
use Rattle.lb_config_words.specs.Pieces.{closes_double, closes_behind}

-- a backslash takes one byte with it
pub closes_behind_one : (bytes : List ℕ) → closes_behind bytes ≡ closes_double (drop 1 bytes)
unfolding closes_double closes_behind
closes_behind_one [] = refl
closes_behind_one (_ ∷ rest) = refl
