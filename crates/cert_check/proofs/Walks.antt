-- A walk over rows beside the groups that they should have.
use Rattle.std.proofs.Common.{◌≡◌, Some, ℕ, ◌+◌, ◌<◌, ◌≤◌, false, List, [], ◌∷◌, ◌++◌, length, get_or, take, refl, sym, ap, ◌∙◌, length-append, arith}
use Rattle.std.specs.List.{slice_get}
use Rattle.std.proofs.lemmas.List.{get_or_at, length-take-le, take_more, take_all}
use Rattle.std.proofs.lemmas.Option.{slice_get-get_or, slice_get_within, get_or_from_slice_get}
use Rattle.lb_types_pins.specs.declared.kind.Group.{Group}
use Rattle.lb_types_pins.specs.declared.kind.Row.{Row}
use Rattle.lb_types_pins.specs.Kinds.{same_kind}
use Rattle.dual_cert_plan.specs.Plans.{group_of, with_group, groups_of}
use Rattle.dual_cert_plan.proofs.OwnSheet.{with_group-other}
use Rattle.dual_cert_plan.proofs.Walk.{Walked, walk_other}

-- what follows the first groups in a list stands there
pub stands_there : (groups : List Group) (at : ℕ) (g : Group) (more : List Group) → at ≤ length groups
    → take at groups ++ (g ∷ more) ≡ groups → slice_get groups at ≡ Some g
stands_there groups at g more within is =
    let front = length-take-le at groups within in
    let longer : at < length groups = omega (arith, ap length is, length-append (take at groups) (g ∷ more)) in
    let there : get_or groups at g ≡ g = ap (λ (xs : List Group). get_or xs at g) (sym is) ∙ get_or_at (take at groups) g more g at front in
    slice_get-get_or groups at g longer ∙ ap (λ (x : Group). Some x) there

pub take_with : (groups : List Group) (at : ℕ) (g : Group) → slice_get groups at ≡ Some g → take at groups ++ (g ∷ []) ≡ take (at + 1) groups
take_with groups at g there =
    let more = take_more groups at g (slice_get_within groups at g there) in
    sym (more ∙ ap (λ (x : Group). take at groups ++ (x ∷ [])) (get_or_from_slice_get groups at g g there))

-- a row of another kind ends the group in hand
pub group_ends : (front : List Group) (group : Group) (r : Row) (rest rows : List Row) → Walked front group (r ∷ rest) rows
    → same_kind group.kind r.kind ≡ false → front ++ (group ∷ with_group (group_of r) (groups_of rest)) ≡ groups_of rows
unfolding groups_of
group_ends front group r rest rows before other =
    ap (λ (gs : List Group). front ++ gs) (sym (with_group-other group r (groups_of rest) other)) ∙ before.whole

-- the group in hand was found among the groups
pub walk_on : (groups : List Group) (at : ℕ) (group : Group) (r : Row) (rest rows : List Row) → Walked (take at groups) group (r ∷ rest) rows
    → same_kind group.kind r.kind ≡ false → slice_get groups at ≡ Some group → Walked (take (at + 1) groups) (group_of r) rest rows
walk_on groups at group r rest rows before other there =
    let next = walk_other (take at groups) group r rest rows before other in
    rw (← take_with groups at group there) next

-- after the last row: the groups are the rows' where the group in hand is the last one
pub whole_from : (groups : List Group) (at : ℕ) (group : Group) (rows : List Row) → take at groups ++ (group ∷ []) ≡ groups_of rows
    → slice_get groups at ≡ Some group → at + 1 ≡ length groups → groups_of rows ≡ groups
whole_from groups at group rows end there last =
    sym end ∙ (take_with groups at group there ∙ take_all (at + 1) groups (omega arith))

pub last_from : (groups : List Group) (at : ℕ) (group : Group) (rows : List Row) → at ≤ length groups → take at groups ++ (group ∷ []) ≡ groups_of rows
    → groups_of rows ≡ groups → at + 1 ≡ length groups
last_from groups at group rows within end whole =
    omega (arith, ap length (end ∙ whole), length-append (take at groups) (group ∷ []), length-take-le at groups within)

pub no_groups : (rows : List Row) → length rows ≡ 0 → groups_of rows ≡ []
unfolding groups_of
no_groups [] none = refl
no_groups (r ∷ rows) none = absurd (omega arith)

pub none_from : (groups : List Group) → length groups ≡ 0 → groups ≡ []
none_from [] none = refl
none_from (g ∷ groups) none = absurd (omega arith)
