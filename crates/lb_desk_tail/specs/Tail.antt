-- The end of a log. The log is the list of all entries so far, and an entry's number is its place there, from 0 on.
use Rattle.std.specs.Prelude.{◌≡◌, ℕ, ◌+◌, ◌-◌, Bool, nat_le, List, [], ◌∷◌, ◌++◌, length, drop, if◌then◌else◌}

-- a tail as it is seen
pub record TailView (E : Type 0) : Type 0 where
  -- how many entries are kept at most
  pub capacity : ℕ
  -- how many entries were forgotten, which is the number of the first one that is kept
  pub first : ℕ
  -- the entries that are kept, the oldest first
  pub entries : List E

-- the tail keeps the end of this log
pub record IsTailOf {E : Type 0} (log : List E) (tail : TailView E) : Type 0 where
  -- the entries from the first one kept on
  pub kept : tail.entries ≡ drop tail.first log
  -- forgotten and kept entries together are the log's
  pub counted : tail.first + length tail.entries ≡ length log
  -- what goes beyond the capacity was forgotten, and no more
  pub bounded : tail.first ≡ length log - tail.capacity

module _ {E : Type 0} where
  -- the tail that keeps nothing, of the empty log
  abbrev pub empty_tail : ℕ → TailView E
  empty_tail capacity = record { capacity = capacity; first = 0; entries = [] }

  -- as many entries are kept as may be
  abbrev pub is_full : TailView E → Bool
  is_full tail = nat_le tail.capacity (length tail.entries)

  -- how many entries leave when one is added: the oldest one of a full tail
  abbrev pub leaving : TailView E → ℕ
  leaving tail = if is_full tail then 1 else 0

  -- the tail with an entry more, behind those that stay
  abbrev pub with_entry : TailView E → E → TailView E
  with_entry tail entry =
      record tail { first = tail.first + leaving tail; entries = drop (leaving tail) tail.entries ++ entry ∷ [] }
