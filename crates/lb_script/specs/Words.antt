-- Words of a script's line. One space (32) stands between two words: where two spaces touch, or a space begins or ends the line,
-- there is an empty word, which no form has.
use Rattle.std.specs.Prelude.{ℕ, List, [], ◌∷◌, Option, Some, None}
use Rattle.lb_types_text.specs.Numbers.{digits_of}
use Rattle.lb_types_text.specs.declared.numbers.Digits.{Digits}
use Rattle.lb_types_text.specs.declared.numbers.Digits.TheVariants.{Misspelt, TooLarge, Value}

-- a word, as its bytes
abbrev pub Word : Type 0
Word = List ℕ

-- the second step, if the first one found something
infixl 10 ◌>>=◌
abbrev pub ◌>>=◌ : {A B : Type 0} → Option A → (A → Option B) → Option B
None >>= f = None
(Some x) >>= f = f x

abbrev pub value_in : Digits → Option ℕ
value_in Misspelt = None
value_in TooLarge = None
value_in (Value number) = Some number

-- the number that the word's decimal digits say, if 64 bits hold it. Zeros may lead
abbrev pub number_in : Word → Option ℕ
number_in word = value_in (digits_of word)

-- the only word, where it is one
abbrev pub only_word : List Word → Option Word
only_word (word ∷ []) = Some word
only_word _ = None

-- this, where no word is left
abbrev pub at_end : {A : Type 0} → A → List Word → Option A
at_end said [] = Some said
at_end said (word ∷ more) = None

-- all of them, if each is there
abbrev pub every : {A : Type 0} → List (Option A) → Option (List A)
every [] = Some []
every (None ∷ more) = None
every (Some x ∷ more) = every more >>= λ xs. Some (x ∷ xs)
