-- Arcs of the residual network: moving a pin of some group from one option to another. Of the arcs from an option to another
-- the least costs the least more; prices play no part in which that is.
use Rattle.std.specs.Prelude.{◌≡◌, ◌≢◌, ◌⊎◌, ℕ, ◌+◌, ◌*◌, ◌<◌, ◌≤◌, Bool, true, false, Option, Some, None, List, length, slice_index_or, replicate}
use Rattle.flow_planner_net.specs.Networks.{NetworkParts, options, size, cost, may}

-- for each option and each other one a group, or none; whether that is right; and how many looks were made
pub record ArcsParts : Type 0 where
  pub least : List (Option ℕ)
  pub fresh : List Bool
  pub looks : ℕ

-- the group whose pins cost the least more at the second option than at the first
unfoldable pub least_of : ℕ → List (Option ℕ) → ℕ → ℕ → Option ℕ
least_of width least source target = slice_index_or least (source * width + target) None

-- the group between two options is said to be right
unfoldable pub is_fresh : ℕ → List Bool → ℕ → ℕ → Bool
is_fresh width fresh source target = slice_index_or fresh (source * width + target) false

-- no arcs are known, and no look was made
abbrev pub no_arcs : ℕ → ArcsParts
no_arcs options = record { least = replicate (options * options) None; fresh = replicate (options * options) false; looks = 0 }

-- there is a place for each two options
pub record AreArcs (network : NetworkParts) (arcs : ArcsParts) : Type 0 where
  pub pairs : length arcs.least ≡ options network * options network
  pub marks : length arcs.fresh ≡ options network * options network

-- the group has pins at the first option that may go to the second, and none of the first groups' pins cost less more there
pub record IsLeastOf (network : NetworkParts) (used : ℕ → ℕ → ℕ) (groups source target best : ℕ) : Type 0 where
  pub there : best < size network
  pub carried : 0 < used source best
  pub allowed : may network best target ≡ true
  pub least : (g : ℕ) → g < groups → 0 < used source g → may network g target ≡ true
      → cost network best target + cost network g source ≤ cost network g target + cost network best source

-- the least of the arcs of the first groups, or none where none of their pins may go there
abbrev pub IsLeast : NetworkParts → (ℕ → ℕ → ℕ) → ℕ → ℕ → ℕ → Option ℕ → Type 0
IsLeast network used groups source target None = (g : ℕ) → g < groups → 0 < used source g → may network g target ≡ true → ⊥
IsLeast network used groups source target (Some best) = IsLeastOf network used groups source target best

-- of the arcs from this option each least one is known
abbrev pub AreLeast : NetworkParts → (ℕ → ℕ → ℕ) → ℕ → ℕ → List (Option ℕ) → Type 0
AreLeast network used groups source least =
    (target : ℕ) → target < options network → IsLeast network used groups source target (least_of (options network) least source target)

-- what is said to be right is
abbrev pub AreKept : NetworkParts → (ℕ → ℕ → ℕ) → ArcsParts → Type 0
AreKept network used arcs =
    (source target : ℕ) → source < options network → target < options network → is_fresh (options network) arcs.fresh source target ≡ true
    → IsLeast network used (size network) source target (least_of (options network) arcs.least source target)

-- of the arcs from this option that aren't said to be right, each least one of the first groups is known
abbrev pub AreFound : NetworkParts → (ℕ → ℕ → ℕ) → ℕ → ℕ → List (Option ℕ) → List Bool → Type 0
AreFound network used groups source least fresh =
    (target : ℕ) → target < options network → is_fresh (options network) fresh source target ≡ false
    → IsLeast network used groups source target (least_of (options network) least source target)

-- the arcs from this option that are said to be right are the same
abbrev pub KnownAreSame : ℕ → ℕ → List Bool → List (Option ℕ) → List (Option ℕ) → Type 0
KnownAreSame width source fresh old new =
    (target : ℕ) → target < width → is_fresh width fresh source target ≡ true → least_of width new source target ≡ least_of width old source target

-- the arcs from this option are of groups that there are
abbrev pub AreOfGroups : NetworkParts → ℕ → List (Option ℕ) → Type 0
AreOfGroups network source least =
    (target best : ℕ) → target < options network → least_of (options network) least source target ≡ Some best → best < size network

-- the arcs from every other option are the same
abbrev pub OthersAreSame : ℕ → ℕ → List (Option ℕ) → List (Option ℕ) → Type 0
OthersAreSame width source old new = (o target : ℕ) → target < width → o ≢ source → least_of width new o target ≡ least_of width old o target

-- the option is among the first so many of the list
pub record IsListed (targets : List ℕ) (many option : ℕ) : Type 0 where
  pub place : ℕ
  pub below : place < many
  pub there : slice_index_or targets place 0 ≡ option

-- the first so many of the list are options
abbrev pub AreOptions : ℕ → List ℕ → ℕ → Type 0
AreOptions width targets many = (i : ℕ) → i < many → slice_index_or targets i 0 < width

-- each option to which the arc from this one isn't said to be right is among the first so many of the list
abbrev pub StaleAreListed : ℕ → List Bool → ℕ → List ℕ → ℕ → Type 0
StaleAreListed width fresh source targets many =
    (target : ℕ) → target < width → is_fresh width fresh source target ≡ false → IsListed targets many target

-- the arc between two options is said to be right or not, and of every other one nothing else is said
pub record IsMarked (width : ℕ) (old new : List Bool) (source target : ℕ) (right : Bool) : Type 0 where
  pub here : is_fresh width new source target ≡ right
  pub other_options : (o k : ℕ) → k < width → o ≢ source → is_fresh width new o k ≡ is_fresh width old o k
  pub other_targets : (o k : ℕ) → k < width → k ≢ target → is_fresh width new o k ≡ is_fresh width old o k

-- no arc is known between two options, and every other one is the same
pub record IsDropped (width : ℕ) (old new : List (Option ℕ)) (source target : ℕ) : Type 0 where
  pub here : least_of width new source target ≡ None
  pub other_options : (o k : ℕ) → k < width → o ≢ source → least_of width new o k ≡ least_of width old o k
  pub other_targets : (o k : ℕ) → k < width → k ≢ target → least_of width new o k ≡ least_of width old o k

-- what is still said to be right was so before, and is the same
pub record AreFewer (network : NetworkParts) (before after : ArcsParts) : Type 0 where
  pub least : after.least ≡ before.least
  pub marks : length after.fresh ≡ length before.fresh
  pub fresh : (o target : ℕ) → target < options network → is_fresh (options network) after.fresh o target ≡ true
      → is_fresh (options network) before.fresh o target ≡ true

-- moving the group's pins costs no less more than moving those of the group that is known
abbrev pub IsNoLess : NetworkParts → ℕ → ℕ → ℕ → Option ℕ → Type 0
IsNoLess network group source target None = ⊥
IsNoLess network group source target (Some best) =
    cost network best target + cost network group source ≤ cost network group target + cost network best source

-- after a move of pins, what is still said to be right is of a group that still has pins there, and no group has come that is less
pub record AreForgotten (network : NetworkParts) (old new : ℕ → ℕ → ℕ) (before after : ArcsParts) : Type 0 where
  pub fewer : AreFewer network before after
  pub stays : (o target best : ℕ) → o < options network → target < options network → best < size network
      → is_fresh (options network) after.fresh o target ≡ true → least_of (options network) before.least o target ≡ Some best
      → 0 < old o best → 0 < new o best
  pub none_came : (o target g : ℕ) → o < options network → target < options network → g < size network
      → is_fresh (options network) after.fresh o target ≡ true → may network g target ≡ true → 0 < new o g
      → (0 < old o g) ⊎ IsNoLess network g o target (least_of (options network) before.least o target)
