-- The rule of the table of one word: what the keeper's view and the passes' views have to do with the history, and what
-- each step does to them.
use Rattle.std.specs.Prelude.{◌≡◌, ℕ, ◌+◌, ◌≤◌, true, false, List, [], ◌∷◌, ◌++◌, length}
use mathlib.Core.Option.{Option, none, some}
use lib.ListN.{get_elem?}
use Rattle.atomic_table.specs.Table.{State, Me, Step}
use Rattle.atomic_table.specs.Seated.{TableId}
use Rattle.lb_desk_tie.specs.declared.view.View.{View}
use Rattle.lb_desk_tie.specs.Receipts.{Each, total, one_if_below, IsSound, IsBeginningOf, times_in, count_in, Shares}

-- the name of no table
abbrev pub no_table : TableId
no_table = record { words = 0; slots = 0; views_name = 0; atom = 0; block = 0; offset = 0; slot_names = [] }

module _ {E : Type 0} where
  abbrev pub keeper_view : List E → ℕ → List (List (ℕ × E)) → List (List E) → View E
  keeper_view history passes lists sights = record { keeps = true; history = history; passes = passes; lists = lists; sights = sights }

  abbrev pub pass_view : List (ℕ × E) → List (List E) → View E
  pass_view list sights = record { keeps = false; history = []; passes = 0; lists = list ∷ []; sights = sights }

  abbrev pub spent_view : View E
  spent_view = record { keeps = false; history = []; passes = 0; lists = []; sights = [] }

  abbrev pub first_list : List (List (ℕ × E)) → List (ℕ × E)
  first_list [] = []
  first_list (list ∷ lists) = list

  abbrev pub other_lists : List (List (ℕ × E)) → List (List (ℕ × E))
  other_lists [] = []
  other_lists (list ∷ lists) = lists

  -- the list of a pass, of its badge's views
  abbrev pub list_of : List (View E) → List (ℕ × E)
  list_of [] = []
  list_of (v ∷ vs) = first_list v.lists

  -- and its sights
  abbrev pub sights_in : List (View E) → List (List E)
  sights_in [] = []
  sights_in (v ∷ vs) = v.sights

  -- one more than the last number, or n where there is none
  abbrev pub next_from : ℕ → List (ℕ × E) → ℕ
  next_from n [] = n
  next_from n (receipt ∷ receipts) = next_from (receipt.0 + 1) receipts

  abbrev pub one_pass_more : View E → View E
  one_pass_more v = keeper_view v.history (v.passes + 1) v.lists v.sights

  -- the keeper's view with another's lists and sights in front of those in hand
  abbrev pub in_hand : View E → View E → View E
  in_hand v w = keeper_view v.history v.passes (w.lists ++ v.lists) (w.sights ++ v.sights)

  -- the first list goes back to its pass, with all sights in hand
  abbrev pub hand_back : View E → View E
  hand_back v = keeper_view v.history v.passes (other_lists v.lists) []

  abbrev pub first_pass : View E → View E
  first_pass v = pass_view (first_list v.lists) v.sights

  abbrev pub with_first : ℕ × E → List (List (ℕ × E)) → List (List (ℕ × E))
  with_first receipt [] = []
  with_first receipt (list ∷ lists) = (list ++ receipt ∷ []) ∷ lists

  -- the keeper's view with the announced entry at the end of the history, and its receipt in the first list in hand
  abbrev pub counted_view : Option E → ℕ → View E → View E
  counted_view none number v = v
  counted_view (some entry) number v = keeper_view (v.history ++ entry ∷ []) v.passes (with_first (number, entry) v.lists) v.sights

  -- the keeper's view with its history at the end of the sights in hand
  abbrev pub seeing_view : View E → View E
  seeing_view v = keeper_view v.history v.passes v.lists (v.sights ++ v.history ∷ [])

  -- what the keeper knows of its own history, of each list in hand
  abbrev pub AreSound : View E → Type 0
  AreSound v = Each (IsSound v.history) v.lists

  -- the word was the number expected, and the entry was counted; the lists in hand were sound before it
  abbrev pub Counts : Step E → Me E (View E) → ℕ → Me E (View E) → Type 0
  Counts s before found after =
      (found ≡ s.first) × (after ≡ (counted_view s.said found before.0, before.1)) × AreSound before.0

  -- the sights in hand have the history as it is, and the lists in hand are sound
  abbrev pub Sights : Step E → Me E (View E) → ℕ → Me E (View E) → Type 0
  Sights s before found after = (after ≡ (seeing_view before.0, before.1)) × AreSound before.0

  -- nothing changed, and each sight in hand is a beginning of the history. Where there are at least as many lists in hand as passes, they
  -- share out the history
  abbrev pub Looks : Step E → Me E (View E) → ℕ → Me E (View E) → Type 0
  Looks s before found after =
      (after ≡ before) × Each (IsBeginningOf before.0.history) before.0.sights
      × (before.0.passes ≤ length before.0.lists → (length before.0.lists ≡ before.0.passes) × Shares before.0.history before.0.lists)

-- what the rule says of the view of one seat
pub record Fits {E : Type 0} (seat : ℕ) (history : List E) (passes by : ℕ) (v : View E) : Type 0 where
  pub keeper : v.keeps ≡ true → (by ≡ seat) × (v.history ≡ history) × (v.passes ≡ passes)
  pub sound : Each (IsSound history) v.lists
  pub early : Each (IsBeginningOf history) v.sights

-- the rule: there are a history, as long as the word says, and one keeper who knows it; the lists of all views are as
-- many as the passes, each number of the history is in one of them, once, and what they say of it is true; and each sight is a
-- beginning of the history
pub record Kept {E : Type 0} (s : State E (View E)) : Type 0 where
  pub seat : ℕ
  pub history : List E
  pub passes : ℕ
  pub words : s.words ≡ length history ∷ []
  pub given : total (λ (v : View E). length v.lists) s.views ≡ passes
  pub long : total (λ (v : View E). count_in v.lists) s.views ≡ length history
  pub once : (x : ℕ) → total (λ (v : View E). times_in x v.lists) s.views ≡ one_if_below x (length history)
  pub fits : (by : ℕ) (v : View E) → get_elem? s.views by ≡ some v → Fits seat history passes by v
