-- Words of a line from the left. Where the words end and the line's spelling breaks off, that fault stands in the place of
-- the next word.
use Rattle.std.specs.Prelude.{ℕ, Bool, not, ◌==◌, length, List, [], ◌∷◌, Option, Some, None, Result, Ok, Err, if◌then◌else◌}
use Rattle.lb_types.specs.Names.{is_name}
use Rattle.lb_config_words.specs.declared.fault.SpellingFault.{SpellingFault}
use Rattle.lb_config_arguments.specs.declared.fault.Fault.{Fault}
use Rattle.lb_config_arguments.specs.declared.fault.Fault.TheVariants.{UnknownWord, BadName}
use Rattle.lb_config_arguments.specs.Faults.{fault_at_end, fault_of_spelling, ◌>>=◌}
use Rattle.lb_config_arguments.specs.Rest.{Rest}

-- these words and this ending
abbrev pub rest_of : List (List ℕ) → Option SpellingFault → Rest
rest_of words ending = record { words = words; ending = ending }

-- the next word, which has to be there
abbrev pub word_in : List (List ℕ) → Option SpellingFault → Result (List ℕ × Rest) Fault
word_in (word ∷ words) ending = Ok (word, rest_of words ending)
word_in [] ending = Err (fault_at_end ending)

unfoldable pub word_at : Rest → Result (List ℕ × Rest) Fault
word_at rest = word_in rest.words rest.ending

-- the next word, or none at the line's end
abbrev pub word_or_end_in : List (List ℕ) → Option SpellingFault → Result (Option (List ℕ) × Rest) Fault
word_or_end_in (word ∷ words) ending = Ok (Some word, rest_of words ending)
word_or_end_in [] None = Ok (None, rest_of [] None)
word_or_end_in [] (Some fault) = Err (fault_of_spelling fault)

unfoldable pub word_or_end_at : Rest → Result (Option (List ℕ) × Rest) Fault
word_or_end_at rest = word_or_end_in rest.words rest.ending

-- the line ends here: a word more is one too many
abbrev pub end_in : List (List ℕ) → Option SpellingFault → Result (Unit {0}) Fault
end_in (word ∷ words) ending = Err UnknownWord
end_in [] None = Ok tt
end_in [] (Some fault) = Err (fault_of_spelling fault)

unfoldable pub end_at : Rest → Result (Unit {0}) Fault
end_at rest = end_in rest.words rest.ending

-- whether words are left, of which each is whole
abbrev pub more_in : List (List ℕ) → Option SpellingFault → Result Bool Fault
more_in words None = Ok (not (length words == 0))
more_in words (Some fault) = Err (fault_of_spelling fault)

unfoldable pub more_at : Rest → Result Bool Fault
more_at rest = more_in rest.words rest.ending

-- a word is left
unfoldable pub due_at : Rest → Result (Unit {0}) Fault
due_at rest = if length rest.words == 0 then Err (fault_at_end rest.ending) else Ok tt

-- the word is a name
unfoldable pub name_in : List ℕ → Result (List ℕ) Fault
name_in word = if is_name word then Ok word else Err BadName

-- the next word, which has to be a name
unfoldable pub name_at : Rest → Result (List ℕ × Rest) Fault
name_at rest = do
  word ← word_at rest
  name ← name_in word.0
  Ok (name, word.1)

-- each word that is left is taken, one after another, up to the line's end
abbrev pub words_in : {S : Type 0} → (S → List ℕ → Result S Fault) → S → List (List ℕ) → Option SpellingFault → Result S Fault
words_in take state (word ∷ words) ending = take state word >>= λ next. words_in take next words ending
words_in take state [] None = Ok state
words_in take state [] (Some fault) = Err (fault_of_spelling fault)

unfoldable pub each_word : {S : Type 0} → (S → List ℕ → Result S Fault) → S → Rest → Result S Fault
each_word take state rest = words_in take state rest.words rest.ending
