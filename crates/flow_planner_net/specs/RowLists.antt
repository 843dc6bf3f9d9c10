-- The rows of a plan that say where the pins of a network stand: group by group, and in a group no server first, then the
-- servers in their order. A row stands where there are pins.
use Rattle.std.specs.Prelude.{◌≡◌, ℕ, zero, suc, List, [], ◌∷◌, ◌++◌, sum_by, nat_lt, if◌then◌else◌}
use Rattle.lb_types_pins.specs.declared.kind.Row.{Row}
use Rattle.pin_set.specs.Costs.{sum_to}
use Rattle.flow_planner_net.specs.Networks.{NetworkParts, options, size, place_of, group_at}

-- the row of the group's pins at the option
abbrev pub row_at : NetworkParts → (ℕ → ℕ → ℕ) → ℕ → ℕ → Row
row_at network used g o = record { kind = (group_at network g).kind; new_place = place_of o; count = used o g }

-- the rows of the group's pins at the first options
unfoldable pub group_rows : NetworkParts → (ℕ → ℕ → ℕ) → ℕ → ℕ → List Row
group_rows network used g zero = []
group_rows network used g (suc o) =
    group_rows network used g o ++ (if nat_lt 0 (used o g) then row_at network used g o ∷ [] else [])

-- the rows of the first groups
unfoldable pub rows_to : NetworkParts → (ℕ → ℕ → ℕ) → ℕ → List Row
rows_to network used zero = []
rows_to network used (suc g) = rows_to network used g ++ group_rows network used g (options network)

abbrev pub rows_of : NetworkParts → (ℕ → ℕ → ℕ) → List Row
rows_of network used = rows_to network used (size network)

-- a sum over the rows, of values that are nothing where there are no pins, is a sum over groups and options
abbrev pub SumsOverRows : Type 0
SumsOverRows = (network : NetworkParts) (used : ℕ → ℕ → ℕ) (f : Row → ℕ)
    → ((g o : ℕ) → used o g ≡ 0 → f (row_at network used g o) ≡ 0)
    → sum_by f (rows_of network used) ≡ sum_to (size network) (λ g. sum_to (options network) (λ o. f (row_at network used g o)))
