-- Words of a command. A reader of words says what they mean, or tells their first fault.
use Rattle.std.specs.Prelude.{ℕ, Bool, ◌==◌, not, filter, List, [], ◌∷◌, length, Result, Ok, Err, if◌then◌else◌}
use Rattle.std.specs.Str.{bytes_eq}
use Rattle.lb_types_text.specs.Parts.{parts}
use Rattle.command_socket_words.specs.declared.fault.CommandFault.{CommandFault}
use Rattle.command_socket_words.specs.declared.fault.CommandFault.TheVariants.{UnknownCommand, MissingWord}
use Rattle.command_socket_words.specs.Faults.{◌>>=◌}

-- a word, as its bytes
abbrev pub Word : Type 0
Word = List ℕ

-- there is something in it
abbrev pub is_filled : {A : Type 0} → List A → Bool
is_filled items = not (length items == 0)

-- the words between the spaces (32), however many spaces stand there
abbrev pub words_in : List ℕ → List Word
words_in command = filter is_filled (parts 32 command)

-- no word is left
unfoldable pub at_end : List Word → Result (Unit {0}) CommandFault
at_end [] = Ok tt
at_end (word ∷ more) = Err UnknownCommand

-- a word that means something, and none behind it
unfoldable pub last : {A : Type 0} → (Word → Result A CommandFault) → List Word → Result A CommandFault
last meaning [] = Err MissingWord
last meaning (word ∷ more) = do
  x ← meaning word
  _ ← at_end more
  Ok x

-- a word that has to stand there, and what the words behind it say
unfoldable pub behind : {A : Type 0} → Word → (List Word → Result A CommandFault) → List Word → Result A CommandFault
behind key reading [] = Err MissingWord
behind key reading (word ∷ more) = if bytes_eq word key then reading more else Err UnknownCommand
