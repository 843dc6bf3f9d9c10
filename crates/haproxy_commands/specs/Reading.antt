-- What HAProxy reads of a text on its admin socket: HAProxy Management Guide, section 9.3 (Unix Socket commands). Commands end at `;` or
-- at the end of a line, words at blanks or tabs, and a byte after a backslash has no meaning of its own.
use Rattle.std.specs.Prelude.{◌≡◌, ℕ, Bool, true, false, ◌==◌, ◌||◌, List, [], ◌∷◌, map, filter, All, if◌then◌else◌}
use Rattle.std.specs.List.{slice_split}

-- a byte of the text, bare or after a backslash
pub data Symbol : Type 0 where
  Bare : (byte : ℕ) → Symbol
  Escaped : (byte : ℕ) → Symbol

abbrev pub byte_of : Symbol → ℕ
byte_of (Bare byte) = byte
byte_of (Escaped byte) = byte

-- whether it is this byte, and bare
abbrev pub is_bare : ℕ → Symbol → Bool
is_bare byte (Bare other) = other == byte
is_bare byte (Escaped other) = false

-- a backslash (92) and the byte after it are one symbol
unfoldable pub symbols_in : List ℕ → List Symbol
symbols_in [] = []
symbols_in (byte ∷ []) = Bare byte ∷ []
symbols_in (byte ∷ next ∷ more) = if byte == 92 then Escaped next ∷ symbols_in more else Bare byte ∷ symbols_in (next ∷ more)

-- `;` (59) and the end of a line (10) end a command
abbrev pub ends_command : Symbol → Bool
ends_command symbol = is_bare 59 symbol || is_bare 10 symbol

-- a blank (32) and a tab (9) end a word
abbrev pub ends_word : Symbol → Bool
ends_word symbol = is_bare 32 symbol || is_bare 9 symbol

-- a carriage return (13) that is the last byte of a command isn't part of it: the guide doesn't say so, but HAProxy 2.6 does it
abbrev pub without_return : List Symbol → List Symbol
without_return [] = []
without_return (last ∷ []) = if byte_of last == 13 then [] else last ∷ []
without_return (symbol ∷ next ∷ more) = symbol ∷ without_return (next ∷ more)

abbrev pub has_any : {A : Type 0} → List A → Bool
has_any [] = false
has_any (x ∷ xs) = true

-- the words of a command, none of them empty
unfoldable pub words_in : List Symbol → List (List ℕ)
words_in command = map (λ word. map byte_of word) (filter has_any (slice_split ends_word (without_return command)))

-- the commands of a text that have a word
unfoldable pub commands_in : List ℕ → List (List (List ℕ))
commands_in text = filter has_any (map words_in (slice_split ends_command (symbols_in text)))

-- a command that ends in `<<` waits for more lines; none does in a text in which a backslash stands before each `<` (60)
abbrev pub NeverWaits : List ℕ → Type 0
NeverWaits text = All (λ symbol. is_bare 60 symbol ≡ false) (symbols_in text)
