-- The columns of an answer to `show servers state`, and the words that stand in them: HAProxy Management Guide, section
-- 9.3. Our own: a row may have more words than there are columns.
use Rattle.std.specs.Prelude.{ℕ, Bool, ◌&&◌, nat_le, List, [], ◌∷◌, length, codes, bytes_eq, if◌then◌else◌}
use Rattle.std.specs.List.{list_any}

-- a column has this name
unfoldable pub has_column : List ℕ → List (List ℕ) → Bool
has_column name columns = list_any (λ column. bytes_eq column name) columns

-- there are columns for what names a server
unfoldable pub names_servers : List (List ℕ) → Bool
names_servers columns = has_column (codes "be_name") columns && has_column (codes "srv_id") columns && has_column (codes "srv_name") columns

-- there are columns for the state of a server
unfoldable pub names_states : List (List ℕ) → Bool
names_states columns = has_column (codes "srv_op_state") columns && has_column (codes "srv_admin_state") columns && has_column (codes "srv_uweight") columns

-- there is a word for each column
unfoldable pub has_enough : List (List ℕ) → List (List ℕ) → Bool
has_enough columns words = nat_le (length columns) (length words)

-- the word that stands in the first column of this name
unfoldable pub word_at : List ℕ → List (List ℕ) → List (List ℕ) → List ℕ
word_at name (column ∷ columns) (word ∷ words) = if bytes_eq column name then word else word_at name columns words
word_at name _ _ = []
