-- The words of a command line: POSIX.1-2024, Base Definitions, section 12.2. `--` ends the options (guideline 10), and
-- `-` alone is no option (guideline 13). We depart in that options may stand behind operands, as GNU's getopt reads them.
use Rattle.std.specs.Prelude.{◌==◌, ◌&&◌, ◌||◌, ◌-◌, ℕ, Bool, false, not, List, [], ◌∷◌, ◌++◌, length, map, nat_lt}
use Rattle.std.specs.Prelude.{if◌then◌else◌, Option, Some, None, is_some, option_map, option_and_then, slice_get, unwrap_or, codes, bytes_eq, chars}
use Rattle.std.specs.Option.{option_map_or, option_or}
use Rattle.std.specs.Borrow.{Bor}
use Rattle.clap.specs.Lexer.{name_and_value, strip_byte}

-- the text of a word, as bytes
abbrev pub Text : Type 0
Text = List ℕ

-- the texts of words
abbrev pub texts : List (Bor Text) → List Text
texts = map (λ word. word.now)

-- the word is `--`
abbrev pub ends_options : Text → Bool
ends_options word = bytes_eq word (codes "--")

-- the first character behind the hyphen (45) of an option. A word that has none is no option
abbrev pub first_letter : Text → Option ℕ
first_letter word = option_and_then (λ rest. slice_get (chars rest) 0) (strip_byte 45 word)

-- the word is an option, and no operand
abbrev pub is_option : Text → Bool
is_option word = is_some (first_letter word)

-- the word asks for help: it is `--help`, or its first letter is `h` (104)
abbrev pub is_help : Text → Bool
is_help word =
    bytes_eq word (codes "--help") || option_map_or (λ letter. letter == 104) (first_letter word) false

-- the operands: every word but the first `--`, where none before that is an option
abbrev pub operands : List Text → Option (List Text)
operands [] = Some []
operands (word ∷ rest) =
    if ends_options word then Some rest
    else if is_option word then None
    else option_map (λ others. word ∷ others) (operands rest)

-- these words, where they are n
abbrev pub exactly : ℕ → List Text → Option (List Text)
exactly n words = if length words == n then Some words else None

-- the operands, where they are n
abbrev pub operands_of : ℕ → List Text → Option (List Text)
operands_of n words = option_and_then (exactly n) (operands words)

-- the first option asks for help, and at most n operands stand before it
abbrev pub asks_help_within : ℕ → List Text → Bool
asks_help_within n [] = false
asks_help_within n (word ∷ rest) =
    if ends_options word then false
    else if is_option word then is_help word
    else nat_lt 0 n && asks_help_within (n - 1) rest

-- ---- an option of a command's own

-- a way to read an option at the front of words: its values, and the words behind it
abbrev pub Reader : Type 0
Reader = List Text → Option (List Text × List Text)

-- the word can be an option's value where it stands apart
abbrev pub is_operand : Text → Bool
is_operand word = not (ends_options word) && not (is_option word)

-- a value that stands apart
abbrev pub value_apart : Reader
value_apart [] = None
value_apart (value ∷ rest) = if is_operand value then Some (value ∷ [], rest) else None

-- a value in the option's own word, or else apart
abbrev pub value_of : Option Text → Reader
value_of (Some value) rest = Some (value ∷ [], rest)
value_of None rest = value_apart rest

-- what stands in an option's word behind its letter, with one `=` (61) taken off
abbrev pub attached : Text → Option Text
attached text = if length text == 0 then None else Some (unwrap_or (strip_byte 61 text) text)

-- the option of one letter that has a value: `-f FILE`, `-fFILE` or `-f=FILE`
abbrev pub lettered : ℕ → Reader
lettered letter [] = None
lettered letter (word ∷ rest) =
    option_and_then (λ behind. value_of (attached behind) rest) (option_and_then (strip_byte letter) (strip_byte 45 word))

-- the option of a long name that has a value: `--sheet SHEET` or `--sheet=SHEET`
abbrev pub named : Text → Reader
named name [] = None
named name (word ∷ rest) =
    let parts = name_and_value word in
    if bytes_eq parts.0 name then value_of parts.1 rest else None

-- the option of a long name that has no value
abbrev pub flagged : Text → Reader
flagged name [] = None
flagged name (word ∷ rest) = if bytes_eq word name then Some ([], rest) else None

-- the values of two options, one behind the other
abbrev pub in_turn : Reader → Reader → Reader
in_turn first second words =
    option_and_then (λ given. option_map (λ more. (given.0 ++ more.0, more.1)) (second given.1)) (first words)

-- two options in either order
abbrev pub both : Reader → Reader → Reader
both one other words = option_or (in_turn one other words) (in_turn other one words)

-- the option behind one operand, which stays among the words behind it
abbrev pub behind_operand : Reader → Reader
behind_operand option [] = None
behind_operand option (word ∷ rest) =
    if is_operand word then option_map (λ given. (given.0, word ∷ given.1)) (option rest) else None

-- the option's values, and the words without it. It stands first, or behind one operand
abbrev pub taken_out : Reader → Reader
taken_out option words = option_or (option words) (behind_operand option words)

-- the option's values, and then the operands, where they are n
abbrev pub files_with : Reader → ℕ → List Text → Option (List Text)
files_with option n words =
    option_and_then (λ given. option_map (λ files. given.0 ++ files) (operands_of n given.1)) (option words)

-- the words behind an option that was read ask for help, where so many operands are due
abbrev pub asks_help_after : ℕ → Option (List Text × List Text) → Bool
asks_help_after n given = option_map_or (λ given. asks_help_within n given.1) given false

-- the words without the option ask for help
abbrev pub asks_help_with : Reader → ℕ → List Text → Bool
asks_help_with option n words = asks_help_after n (option words)
