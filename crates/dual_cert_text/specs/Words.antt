-- Words of a line. A reader of words gives a value, or none where the words are not of the form due there.
use Rattle.std.specs.Prelude.{ℕ, ◌==◌, Option, Some, None, option_and_then, List, if◌then◌else◌}
use Rattle.std.specs.Str.{bytes_eq}
use Rattle.lb_types_text.specs.Numbers.{numeral_of}

-- the second step, if the first one gave a value
infixl 10 ◌>>=◌
abbrev pub ◌>>=◌ : {A B : Type 0} → Option A → (A → Option B) → Option B
o >>= f = option_and_then f o

-- the number behind the word that says what it counts
unfoldable pub keyed : List ℕ → List ℕ → List ℕ → Option ℕ
keyed key word number = if bytes_eq word key then numeral_of number else None

-- a number of at least 1
unfoldable pub positive_of : List ℕ → Option ℕ
positive_of word = numeral_of word >>= λ n. (if n == 0 then None else Some n)
