-- Receipts, and the history that they stand in. A history is a list of entries, numbered from 0. A receipt is a number
-- and an entry, and a pass has a list of them, in the order of its calls.
use Rattle.std.specs.Prelude.{◌≡◌, ℕ, ◌+◌, Bool, true, ◌&&◌, ◌==◌, nat_lt, nat_le, List, [], ◌∷◌, ◌++◌, length, Some, slice_get, if◌then◌else◌}

-- P of each element
abbrev pub Each : {A : Type 0} → (A → Type 0) → List A → Type 0
Each P [] = Unit {0}
Each P (x ∷ xs) = P x × Each P xs

-- the sum of f over the list
abbrev pub total : {A : Type 0} → (A → ℕ) → List A → ℕ
total f [] = 0
total f (x ∷ xs) = f x + total f xs

-- 1 where the numbers are equal, else 0
abbrev pub one_if_same : ℕ → ℕ → ℕ
one_if_same x y = if x == y then 1 else 0

-- 1 where the number is below the limit, else 0
abbrev pub one_if_below : ℕ → ℕ → ℕ
one_if_below x limit = if nat_lt x limit then 1 else 0

-- a keeper as it is seen
pub record KeeperView (E : Type 0) : Type 0 where
  -- which keeper it is
  pub number : ℕ
  -- all entries so far
  pub history : List E
  -- how many passes it gave out
  pub passes : ℕ

-- a pass as it is seen
pub record PassView (E : Type 0) : Type 0 where
  -- which keeper gave it out
  pub keeper : ℕ
  -- what it was told, each with its number in the history
  pub receipts : List (ℕ × E)
  -- the history as it was each time that the pass looked at it without adding to it
  pub sights : List (List E)

module _ {E : Type 0} where
  -- a keeper with no entry and no pass
  abbrev pub new_keeper : ℕ → KeeperView E
  new_keeper number = record { number = number; history = []; passes = 0 }

  -- the keeper with an entry more
  abbrev pub with_entry : KeeperView E → E → KeeperView E
  with_entry keeper entry = record keeper { history = keeper.history ++ entry ∷ [] }

  -- the keeper with a pass more
  abbrev pub with_pass : KeeperView E → KeeperView E
  with_pass keeper = record keeper { passes = keeper.passes + 1 }

  -- a pass of the keeper with no receipt
  abbrev pub new_pass : ℕ → PassView E
  new_pass keeper = record { keeper = keeper; receipts = []; sights = [] }

  -- the pass with a receipt more
  abbrev pub with_receipt : PassView E → ℕ × E → PassView E
  with_receipt pass receipt = record pass { receipts = pass.receipts ++ receipt ∷ [] }

  -- the pass with a sight more
  abbrev pub with_sight : PassView E → List E → PassView E
  with_sight pass sight = record pass { sights = pass.sights ++ sight ∷ [] }

  -- the passes' lists of receipts
  abbrev pub receipts_of : List (PassView E) → List (List (ℕ × E))
  receipts_of [] = []
  receipts_of (pass ∷ passes) = pass.receipts ∷ receipts_of passes

  -- the sights of all passes
  abbrev pub sights_of : List (PassView E) → List (List E)
  sights_of [] = []
  sights_of (pass ∷ passes) = pass.sights ++ sights_of passes

  -- the history begins so
  abbrev pub IsBeginningOf : List E → List E → Type 0
  IsBeginningOf history sight = (later : List E) × (history ≡ sight ++ later)

  -- the keeper of this number gave out each of the passes
  abbrev pub AreOf : ℕ → List (PassView E) → Type 0
  AreOf number passes = Each (λ (pass : PassView E). pass.keeper ≡ number) passes

  -- the entry of the receipt stands in the history at the receipt's number
  abbrev pub StandsIn : List E → ℕ × E → Type 0
  StandsIn history receipt = slice_get history receipt.0 ≡ Some receipt.1

  -- each number of the list is at least n, and greater than the one before it
  abbrev pub rises_from : ℕ → List (ℕ × E) → Bool
  rises_from n [] = true
  rises_from n (receipt ∷ receipts) = nat_le n receipt.0 && rises_from (receipt.0 + 1) receipts

  -- each number of the list is greater than the one before it
  abbrev pub rises : List (ℕ × E) → Bool
  rises receipts = rises_from 0 receipts

  -- the receipts stand in the history, and a later one has a greater number
  abbrev pub IsSound : List E → List (ℕ × E) → Type 0
  IsSound history receipts = Each (StandsIn history) receipts × (rises receipts ≡ true)

  abbrev pub all_rise : List (List (ℕ × E)) → Bool
  all_rise [] = true
  all_rise (list ∷ lists) = rises list && all_rise lists

  -- how often a number is in a list, and in all lists
  abbrev pub times : ℕ → List (ℕ × E) → ℕ
  times x list = total (λ (receipt : ℕ × E). one_if_same receipt.0 x) list

  abbrev pub times_in : ℕ → List (List (ℕ × E)) → ℕ
  times_in x lists = total (times x) lists

  -- how many receipts all lists have together
  abbrev pub count_in : List (List (ℕ × E)) → ℕ
  count_in lists = total (λ (list : List (ℕ × E)). length list) lists

-- the lists share out the history: each entry has one receipt, at its number, and there is no other receipt
pub record Shares {E : Type 0} (history : List E) (lists : List (List (ℕ × E))) : Type 0 where
  -- each receipt's entry stands at its number
  pub stand : Each (Each (StandsIn history)) lists
  -- a later call of a pass has a greater number
  pub rise : all_rise lists ≡ true
  -- each number of the history is in one list, once, and no other number is
  pub once : (x : ℕ) → times_in x lists ≡ one_if_below x (length history)
  -- there are as many receipts as entries
  pub long : count_in lists ≡ length history

-- the receipt stands at place k of list i
abbrev pub IsAt : {E : Type 0} → List (List (ℕ × E)) → ℕ → ℕ → ℕ × E → Type 0
IsAt {E} lists i k receipt = (list : List (ℕ × E)) × (slice_get lists i ≡ Some list) × (slice_get list k ≡ Some receipt)

-- two receipts of one number are one receipt
abbrev pub AreApart : {E : Type 0} → List (List (ℕ × E)) → Type 0
AreApart {E} lists = (i k j m : ℕ) (p q : ℕ × E) → IsAt lists i k p → IsAt lists j m q → p.0 ≡ q.0 → (i ≡ j) × (k ≡ m)
