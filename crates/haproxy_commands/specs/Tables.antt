-- A stick table in plain words: the number of the server that a key's entry names, or none where the key has no entry. What the
-- commands `clear table` and `set table` do to it is from the HAProxy Management Guide, section 9.3.
use Rattle.std.specs.Prelude.{ℕ, Bool, ◌&&◌, List, [], ◌∷◌, Option, Some, None, codes, if◌then◌else◌}
use Rattle.std.specs.Str.{bytes_eq}
use Rattle.lb_types_text.specs.Numbers.{numeral_of}

-- what a command asks of the table of this name
pub data Request : Type 0 where
  Clear : (key : List ℕ) → Request
  Set : (key : List ℕ) → (server : ℕ) → Request
  Other : Request

-- setting the key's entry to the number that the word spells
abbrev pub set_request : List ℕ → Option ℕ → Request
set_request key None = Other
set_request key (Some server) = Set key server

-- `table NAME key`, in words, is what these words are
abbrev pub asks_of : List ℕ → List ℕ → List ℕ → List ℕ → Bool
asks_of name word table key_word = bytes_eq word (codes "table") && bytes_eq table name && bytes_eq key_word (codes "key")

-- `clear table NAME key KEY`, or `set table NAME key KEY data.server_id N`
unfoldable pub request_of : List ℕ → List (List ℕ) → Request
request_of name (verb ∷ word ∷ table ∷ key_word ∷ key ∷ []) =
    if bytes_eq verb (codes "clear") && asks_of name word table key_word then Clear key else Other
request_of name (verb ∷ word ∷ table ∷ key_word ∷ key ∷ data_word ∷ number ∷ []) =
    if bytes_eq verb (codes "set") && asks_of name word table key_word && bytes_eq data_word (codes "data.server_id")
    then set_request key (numeral_of number) else Other
request_of name words = Other

-- a table gives a key the server of its entry, if it has one
abbrev pub Table : Type 0
Table = List ℕ → Option ℕ

abbrev pub with_entry : List ℕ → Option ℕ → Table → Table
with_entry key entry table other = if bytes_eq other key then entry else table other

-- the table after a request: `clear` removes the key's entry, and `set` puts one
abbrev pub after_request : Request → Table → Table
after_request (Clear key) table = with_entry key None table
after_request (Set key server) table = with_entry key (Some server) table
after_request Other table = table

-- the table of this name after the commands
abbrev pub carried_out : List ℕ → List (List (List ℕ)) → Table → Table
carried_out name [] table = table
carried_out name (command ∷ commands) table = carried_out name commands (after_request (request_of name command) table)
