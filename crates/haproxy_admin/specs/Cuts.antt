-- Bytes cut in two at a mark.
use Rattle.std.specs.Prelude.{ℕ, ◌+◌, ◌==◌, List, take, drop, position, Option}
use Rattle.std.specs.Option.{option_and_then, option_map}

-- the second step, if the first one gave a value
infixl 10 ◌>>=◌
abbrev pub ◌>>=◌ : {A B : Type 0} → Option A → (A → Option B) → Option B
o >>= f = option_and_then f o

-- what stands before the first such byte, and what follows it
unfoldable pub cut : ℕ → List ℕ → Option (List ℕ × List ℕ)
cut mark bytes = option_map (λ at. (take at bytes, drop (at + 1) bytes)) (position (λ b. b == mark) bytes)
