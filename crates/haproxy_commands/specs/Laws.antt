-- What is written of a table's name, and what the commands make of a table.
use Rattle.std.specs.Prelude.{◌≡◌, ◌≢◌, ℕ, true, List, ◌∷◌, ◌++◌, Some, All}
use Rattle.haproxy_commands.specs.declared.moves.Move.{Move}
use Rattle.haproxy_commands.specs.Names.{is_table_name}
use Rattle.haproxy_commands.specs.Writing.{IsMove, spelled, commands_of}
use Rattle.haproxy_commands.specs.Tables.{Table, carried_out}

-- no move is of this key
abbrev pub IsNotMoved : List ℕ → List Move → Type 0
IsNotMoved key moves = All (λ entry. entry.key.now ≢ key) moves

-- the entry of a moved key names the move's server, if no later move is of the same key
abbrev pub MovedEntriesNameTheirServers : Type 0
MovedEntriesNameTheirServers =
    (name : List ℕ) (table : Table) (before later : List Move) (entry : Move) →
    All IsMove (before ++ entry ∷ later) → IsNotMoved entry.key.now later →
    carried_out name (commands_of name (before ++ entry ∷ later)) table entry.key.now ≡ Some entry.server

-- a key that isn't moved has the entry that it had, or none if it had none
abbrev pub OtherEntriesStay : Type 0
OtherEntriesStay =
    (name : List ℕ) (table : Table) (moves : List Move) (key : List ℕ) →
    All IsMove moves → IsNotMoved key moves → carried_out name (commands_of name moves) table key ≡ table key

-- a table of another name is as it was
abbrev pub OtherTablesStay : Type 0
OtherTablesStay =
    (name other : List ℕ) (table : Table) (moves : List Move) (key : List ℕ) →
    other ≢ name → carried_out other (commands_of name moves) table key ≡ table key

-- a table's name is written as it is
abbrev pub NamesAreWrittenAsTheyAre : Type 0
NamesAreWrittenAsTheyAre = (name : List ℕ) → is_table_name name ≡ true → spelled name ≡ name
