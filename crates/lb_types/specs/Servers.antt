-- Sets of servers. A server is its place in the configuration's order, and a set is the number whose bit i says
-- whether the set holds server i. Two sets with the same servers are one number (`same_sets` in proofs/Sets).
use Rattle.std.specs.Prelude.{ℕ, zero, suc, ◌^◌, Bool, ◌==◌, List, [], ◌∷◌, ◌++◌, if◌then◌else◌, bit_and, bit_or}
use Rattle.std.specs.Int.{bit_at}

-- the set holds the server
unfoldable pub has : ℕ → ℕ → Bool
has set server = bit_at set server == 1

-- the servers of both sets
abbrev pub meet : ℕ → ℕ → ℕ
meet a b = bit_and a b

-- the servers of either set
abbrev pub union : ℕ → ℕ → ℕ
union a b = bit_or a b

-- the set with one server more
abbrev pub with_server : ℕ → ℕ → ℕ
with_server set server = bit_or set (2 ^ server)

-- the set's servers below a number, in the configuration's order
unfoldable pub members_below : ℕ → ℕ → List ℕ
members_below zero set = []
members_below (suc k) set = members_below k set ++ (if has set k then k ∷ [] else [])

-- the set's servers, in the configuration's order
unfoldable pub members : ℕ → List ℕ
members set = members_below 128 set
