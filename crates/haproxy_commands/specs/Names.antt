-- Which tables and keys a command can name.
use Rattle.std.specs.Prelude.{◌≡◌, ℕ, Bool, ◌==◌, ◌||◌, ◌&&◌, not, List, length, Option, Some, None, Result, Ok, Err, position, if◌then◌else◌}
use Rattle.std.specs.List.{list_all}
use Rattle.std.specs.Option.{option_map}
use Rattle.std.specs.Char.{is_ascii_alphanumeric}
use Rattle.haproxy_commands.specs.declared.moves.Move.{Move}
use Rattle.haproxy_commands.specs.declared.fault.CommandsFault.{CommandsFault}
use Rattle.haproxy_commands.specs.declared.fault.CommandsFault.TheVariants.{BadTable, BadKey, OutOfMemory}

-- a letter, a digit, `-`, `_`, `.` or `:`
abbrev pub is_name_byte : ℕ → Bool
is_name_byte byte = is_ascii_alphanumeric byte || byte == 45 || byte == 95 || byte == 46 || byte == 58

abbrev pub is_table_name : List ℕ → Bool
is_table_name name = not (length name == 0) && list_all is_name_byte name

-- no NUL (0), LF (10) or CR (13): these may end a command, also after a backslash
abbrev pub can_stand : ℕ → Bool
can_stand byte = not (byte == 0) && not (byte == 10) && not (byte == 13)

abbrev pub can_be_named : List ℕ → Bool
can_be_named key = not (length key == 0) && list_all can_stand key

abbrev pub is_unnamed : Move → Bool
is_unnamed entry = not (can_be_named entry.key.now)

-- why there are no commands: the table's name, else the first key that can't be named
abbrev pub refusal_of : List ℕ → List Move → Option CommandsFault
refusal_of table moves = if is_table_name table then option_map BadKey (position is_unnamed moves) else Some BadTable

-- an answer, if this is why there are no commands. Memory may run out only if there is no such reason
abbrev pub Answers : {A : Type 0} → Result A CommandsFault → Option CommandsFault → Type 0
Answers (Ok text) refusal = refusal ≡ None
Answers (Err OutOfMemory) refusal = refusal ≡ None
Answers (Err BadTable) refusal = refusal ≡ Some BadTable
Answers (Err (BadKey place)) refusal = refusal ≡ Some (BadKey place)
