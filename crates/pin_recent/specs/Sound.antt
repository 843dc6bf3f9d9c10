-- How pairs are stored: in a map, each at a place of its own, with a log of places beside it. No public clause cites this module.
use Rattle.std.specs.Prelude.{◌≡◌, ◌≢◌, ℕ, ◌+◌, ◌*◌, ◌<◌, ◌≤◌, Bool, true, false, List, [], ◌∷◌, ◌++◌, ◌-◌, Some, if◌then◌else◌, length, map, nat_lt, slice_get, slice_set}
use Rattle.std.specs.Option.{option_to_list, option_map_or}
use Rattle.std.specs.VecDeque.{deque_capacity}
use Rattle.pin_recent.specs.declared.stamped.Stamped.{Stamped}
use Rattle.pin_recent.specs.declared.store.Store.{Store}
use Rattle.pin_recent.specs.Recent.{Asks, given}

-- the items that stand at these places. A place past the end has none, so a hole gives nothing
abbrev pub picked : {X : Type 0} → List X → List ℕ → List X
picked xs [] = []
picked xs (place ∷ places) = option_to_list (slice_get xs place) ++ picked xs places

module _ {K V : Type 0} where
  -- the pairs without their numbers, in the map's order
  abbrev pub bare : List (K × Stamped V) → List (K × V)
  bare entries = map (λ e. (e.0, e.1.value)) entries

  -- the numbers alone
  abbrev pub numbers : List (K × Stamped V) → List ℕ
  numbers entries = map (λ e. e.1.number) entries

-- A log whose first place has the number `first`, and the numbers that stand at the places
pub record Tied (first : ℕ) (log : List ℕ) (numbers : List ℕ) : Type 0 where
  -- each place stands in the log, under its number
  pub stands : (place number : ℕ) → slice_get numbers place ≡ Some number → (i : ℕ) × (number ≡ first + i) × (slice_get log i ≡ Some place)
  -- and under no other
  pub once : (i place number : ℕ) → slice_get log i ≡ Some place → slice_get numbers place ≡ Some number → number ≡ first + i
  -- and what is no place is a hole
  pub holes : (i place : ℕ) → slice_get log i ≡ Some place → length numbers ≤ place → 4294967295 ≤ place

module _ {K V S H : Type 0} where
  -- the pairs in the log's order
  abbrev pub stored : Store K V S H → List (K × V)
  stored s = picked (bare s.map.entries) s.log.places.items

  -- the number that the next place gets
  abbrev pub next_number : Store K V S H → ℕ
  next_number s = s.log.first + length s.log.places.items

  -- a bound on the numbers given out, and on the holes
  abbrev pub spent : Store K V S H → ℕ
  spent s = next_number s + length s.log.places.items

  -- between calls, but for the log's front
  pub record Ordered (s : Store K V S H) : Type 0 where
    pub tied : Tied s.log.first s.log.places.items (numbers s.map.entries)
    -- the log leads to every entry
    pub all : length (stored s) ≡ length s.map.entries
    pub few : length s.map.entries < 4294967295
    -- with its holes closed the log has room
    pub room : 2 * length s.map.entries ≤ deque_capacity s.log.places

  -- the log doesn't begin with a hole
  abbrev pub Trim : Store K V S H → Type 0
  Trim s = (place : ℕ) → slice_get s.log.places.items 0 ≡ Some place → place < length s.map.entries

-- The key at this place passes the test, and no other does
pub record OnlyAt {K V : Type 0} (test : K → Bool) (place : ℕ) (pairs : List (K × V)) : Type 0 where
  pub passes : (pair : K × V) → slice_get pairs place ≡ Some pair → test pair.0 ≡ true
  pub alone : (other : ℕ) (pair : K × V) → slice_get pairs other ≡ Some pair → test pair.0 ≡ true → other ≡ place

-- No key passes the test
abbrev pub Nowhere : {K V : Type 0} → (K → Bool) → List (K × V) → Type 0
Nowhere {K} {V} test pairs = (place : ℕ) (pair : K × V) → slice_get pairs place ≡ Some pair → test pair.0 ≡ false

-- One item of xs was taken out, and the last one took its place
pub record TakesOut {A : Type 0} (gone last : ℕ) (xs ys : List A) : Type 0 where
  pub before : length xs ≡ last + 1
  pub after : length ys ≡ last
  pub kept : (place : ℕ) → place < last → place ≢ gone → slice_get ys place ≡ slice_get xs place
  pub moved : gone < last → slice_get ys gone ≡ slice_get xs last

-- the first place goes to the end of the log; a hole goes away
abbrev pub turned : ℕ → List ℕ → List ℕ
turned places [] = []
turned places (place ∷ log) = if nat_lt place places then log ++ place ∷ [] else log

-- the log once the entry at this place, if there is one, is known to stand there
abbrev pub settled : ℕ → List ℕ → ℕ → List ℕ → List ℕ
settled first numbers place log = option_map_or (λ number. slice_set log (number - first) place) (slice_get numbers place) log

-- each pair was asked for in its turn, and has the value that it got
pub record IsPassed {C K V : Type 0} (changes : C → K → V → V → C → Type 0) (first last : C) (old new : List (K × V)) : Type 0 where
  pub passed : List ((K × V) × V)
  pub was : map (λ c. c.0) passed ≡ old
  pub is : map given passed ≡ new
  pub asks : Asks changes first passed last
