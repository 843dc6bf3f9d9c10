-- Lines spelled from words: one space between words, and a semicolon between commands.
use Rattle.std.specs.Prelude.{ℕ, Bool, ◌==◌, ◌&&◌, not, map, List}
use Rattle.std.specs.List.{list_all, join_with_byte}
use Rattle.command_socket_words.specs.Words.{Word, is_filled}

-- the byte is no space (32) and no semicolon (59)
abbrev pub is_plain : ℕ → Bool
is_plain byte = not (byte == 32) && not (byte == 59)

-- a word as it can stand in a line
abbrev pub is_word : Word → Bool
is_word word = is_filled word && list_all is_plain word

-- the words of a command: at least one
abbrev pub are_words : List Word → Bool
are_words words = is_filled words && list_all is_word words

-- the words, with a space between any two
abbrev pub text_of : List Word → List ℕ
text_of words = join_with_byte 32 words

-- the commands' texts, with a semicolon between any two
unfoldable pub line_of : List (List Word) → List ℕ
line_of commands = join_with_byte 59 (map text_of commands)
