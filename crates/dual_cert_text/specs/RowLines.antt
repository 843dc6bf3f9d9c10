-- What lines of rows and of groups say of their pins: how many there are, where they are, where they may be and what
-- each costs to move. Numbers are of any size, and a set's names in any order.
use Rattle.std.specs.Prelude.{ℕ, Bool, true, false, ◌&&◌, ◌+◌, nat_le, is_some, Option, Some, None, List, [], ◌∷◌, codes, fold, slice_get, if◌then◌else◌}
use Rattle.std.specs.Str.{bytes_eq}
use Rattle.lb_types.specs.Servers.{with_server}
use Rattle.lb_types_text.specs.Parts.{parts}
use Rattle.dual_cert_plan.specs.declared.server.PricedServer.{PricedServer}
use Rattle.dual_cert_text.specs.declared.kind_words.SetWord.{SetWord}
use Rattle.dual_cert_text.specs.declared.row_line.RowWords.{RowWords}
use Rattle.dual_cert_text.specs.ServerLines.{server_named}
use Rattle.dual_cert_text.specs.Words.{◌>>=◌, positive_of}

-- the word is the one for no server, and for no servers
abbrev pub is_dash : List ℕ → Bool
is_dash word = bytes_eq word (codes "-")

-- the place that a word names
unfoldable pub place_of : List PricedServer → List ℕ → Option (Option ℕ)
place_of servers word = if is_dash word then Some None else (server_named servers word >>= λ server. Some (Some server))

-- the server of this number is there, and isn't off
unfoldable pub is_open : List PricedServer → ℕ → Bool
is_open servers server = is_some (slice_get servers server >>= λ s. s.server.capacity)

-- the usable server of this name
unfoldable pub usable_named : List PricedServer → List ℕ → Option ℕ
usable_named servers word = server_named servers word >>= λ server. (if is_open servers server then Some server else None)

-- the usable servers of these names
unfoldable pub usable_servers_of : List PricedServer → List (List ℕ) → Option (List ℕ)
usable_servers_of servers [] = Some []
usable_servers_of servers (word ∷ words) = usable_named servers word >>= λ first. (usable_servers_of servers words >>= λ more. Some (first ∷ more))

-- the numbers are at least `from`, and strictly rising
abbrev pub are_rising : ℕ → List ℕ → Bool
are_rising from [] = true
are_rising from (first ∷ more) = nat_le from first && are_rising (first + 1) more

-- the set of these servers
abbrev pub set_with : List ℕ → ℕ
set_with servers = fold with_server 0 servers

-- the set of the usable servers of these names
unfoldable pub members_of : List PricedServer → List (List ℕ) → Option SetWord
members_of servers words = usable_servers_of servers words >>= λ found. Some (record { is_rising = are_rising 0 found; servers = set_with found })

-- the set that a word names
unfoldable pub set_of : List PricedServer → List ℕ → Option SetWord
set_of servers word =
    if is_dash word then Some (record { is_rising = true; servers = 0 })
    else members_of servers (parts 44 word)

-- the cost at a line's end, which stands there where the text is of version 2
unfoldable pub cost_of : Bool → List (List ℕ) → Option ℕ
cost_of false [] = Some 1
cost_of true (word ∷ []) = positive_of word
cost_of _ _ = None

-- the words behind `row`: COUNT PLACE NEW SET, and COST
unfoldable pub row_words_of : Bool → List PricedServer → List (List ℕ) → Option RowWords
row_words_of has_costs servers (count ∷ place ∷ new ∷ set ∷ words) = do
  n ← positive_of count
  from ← place_of servers place
  to ← place_of servers new
  permitted ← set_of servers set
  c ← cost_of has_costs words
  Some (record { count = n; place = from; new_place = to; permitted = permitted; cost = c })
row_words_of _ _ _ = None
