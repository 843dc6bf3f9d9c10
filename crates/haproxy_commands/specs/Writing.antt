-- The commands `clear table` and `set table` of the HAProxy Management Guide, section 9.3, as they are written.
use Rattle.std.specs.Prelude.{ℕ, Bool, ◌==◌, ◌<◌, ◌^◌, ◌||◌, List, [], ◌∷◌, ◌++◌, map, flat_map, codes, if◌then◌else◌}
use Rattle.std.specs.Borrow.{Bor}
use Rattle.std.specs.Fmt.{decimal}
use Rattle.haproxy_commands.specs.declared.moves.Move.{Move}

-- the server's number has 32 bits
abbrev pub IsMove : Move → Type 0
IsMove entry = entry.server < 2 ^ 32

-- the words of the command that removes the key's entry
abbrev pub clear_words : List ℕ → List ℕ → List (List ℕ)
clear_words table key = codes "clear" ∷ codes "table" ∷ table ∷ codes "key" ∷ key ∷ []

-- the words of the command that makes an entry of the key, which names the server of this number
abbrev pub set_words : List ℕ → List ℕ → ℕ → List (List ℕ)
set_words table key server = codes "set" ∷ codes "table" ∷ table ∷ codes "key" ∷ key ∷ codes "data.server_id" ∷ decimal server ∷ []

-- two commands for each move, in order
unfoldable pub commands_of : List ℕ → List Move → List (List (List ℕ))
commands_of table moves = flat_map (λ entry. clear_words table entry.key.now ∷ set_words table entry.key.now entry.server ∷ []) moves

-- a backslash (92), a blank (32), `;` (59), a tab (9) and `<` (60)
abbrev pub needs_backslash : ℕ → Bool
needs_backslash byte = byte == 92 || byte == 32 || byte == 59 || byte == 9 || byte == 60

abbrev pub escaped : ℕ → List ℕ
escaped byte = if needs_backslash byte then 92 ∷ byte ∷ [] else byte ∷ []

-- a word in a command
unfoldable pub spelled : List ℕ → List ℕ
spelled word = flat_map escaped word

-- the words of a command, with a blank between them
unfoldable pub command_text : List (List ℕ) → List ℕ
command_text [] = []
command_text (first ∷ more) = spelled first ++ flat_map (λ word. 32 ∷ spelled word) more

-- the words, with the first one apart
abbrev pub words_of : List ℕ → List (Bor (List ℕ)) → List (List ℕ)
words_of first more = first ∷ map (λ word. word.now) more

-- two commands in a line, with `;` between them
unfoldable pub pair_text : List (List ℕ) → List (List ℕ) → List ℕ
pair_text first second = (command_text first ++ 59 ∷ command_text second) ++ 10 ∷ []

-- the line of a move
abbrev pub line_of : List ℕ → Move → List ℕ
line_of table entry = pair_text (clear_words table entry.key.now) (set_words table entry.key.now entry.server)

unfoldable pub text_of : List ℕ → List Move → List ℕ
text_of table moves = flat_map (λ entry. line_of table entry) moves
