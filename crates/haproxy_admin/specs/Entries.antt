-- The line of an entry in an answer to `show table`: HAProxy Management Guide, section 9.3. An example is
-- `0x55d7b8c8f0a0: key=10.0.0.7 use=0 exp=29993 shard=0 server_id=1 server_key=web1`.
use Rattle.std.specs.Prelude.{ℕ, Bool, ◌&&◌, nat_eq, nat_lt, not, List, length, drop, Option, Some, None, codes, if◌then◌else◌}
use Rattle.std.specs.Char.{is_ascii_hexdigit}
use Rattle.std.specs.List.{list_all, starts_with}
use Rattle.std.specs.Option.{unwrap_or}
use Rattle.haproxy_admin.specs.declared.entry.Entry.{Entry}
use Rattle.haproxy_admin.specs.Cuts.{◌>>=◌, cut}
use Rattle.haproxy_admin.specs.Fields.{is_field, number_in, server_in, words_after}
use Rattle.haproxy_admin.specs.Keys.{key_at}

-- `0x` and hexadecimal digits
unfoldable pub is_address : List ℕ → Bool
is_address word = starts_with nat_eq word (codes "0x") && nat_lt 2 (length word) && list_all is_ascii_hexdigit (drop 2 word)

-- what follows the address, `:` (58) and ` key=` in the line
unfoldable pub key_text : List ℕ → Option (List ℕ)
key_text line = cut 58 line >>= λ two. (if is_address two.0 && starts_with nat_eq two.1 (codes " key=") then Some (drop 5 two.1) else None)

-- the entry of this key, with what the words after it say
unfoldable pub entry_with : List ℕ → List (List ℕ) → Option Entry
entry_with key words =
    if not (list_all is_field words) then None
    else (number_in (codes "server_id") words >>= λ number. (number_in (codes "exp") words >>= λ left.
    Some (record { key = key; server_name = server_in words; server_number = number; left = unwrap_or left 0 })))

-- the entry that the line is
unfoldable pub entry_of : List ℕ → Option Entry
entry_of line = do
  text ← key_text line
  key ← key_at text
  entry_with key.0 (words_after key.1)
