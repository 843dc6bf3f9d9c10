-- Values under keys. Our own words.
use Rattle.std.specs.Prelude.{◌≡◌, ◌≢◌, ℕ, List, Option, None, is_some, IsSome, count_by, slice_index_or}

-- the value or nothing at each key from 0 on, the key of the value that comes next, and how many values there may be
pub record Keyed (T : Type 0) : Type 0 where
  pub places : List (Option T)
  pub next : ℕ
  pub most : ℕ

module _ {T : Type 0} where
  -- the value at a key
  abbrev pub at : Keyed T → ℕ → Option T
  at keyed key = slice_index_or keyed.places key None

  -- there is a value at the key
  abbrev pub HasKey : Keyed T → ℕ → Type 0
  HasKey keyed key = IsSome (at keyed key)

  -- how many keys have a value
  abbrev pub held : Keyed T → ℕ
  held keyed = count_by is_some keyed.places

  -- this is at the key now, and every other key has what it had
  pub record Updates (old new : Keyed T) (key : ℕ) (value : Option T) : Type 0 where
    pub changed : at new key ≡ value
    pub others : (other : ℕ) → other ≢ key → at new other ≡ at old other
