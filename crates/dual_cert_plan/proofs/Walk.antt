-- A walk over rows that joins those of one kind: the groups that are done, the one in hand, and the rows to come.
use Rattle.std.proofs.Common.{◌≡◌, ℕ, ◌+◌, ◌<◌, ◌≤◌, true, false, List, [], ◌∷◌, ◌++◌, length, get_or, drop, refl, sym, ap, ◌∙◌, append_assoc, arith}
use Rattle.std.specs.List.{sum_by}
use Rattle.std.proofs.lemmas.List.{drop_more}
use Rattle.std.proofs.lemmas.List.Sums.{sum_by-cons}
use Rattle.lb_types_pins.specs.declared.kind.Group.{Group}
use Rattle.lb_types_pins.specs.declared.kind.Row.{Row}
use Rattle.lb_types_pins.specs.Kinds.{same_kind}
use Rattle.dual_cert_plan.specs.Plans.{group_of, grown, with_group, groups_of}
use Rattle.dual_cert_plan.proofs.OwnSheet.{with_group-same, with_group-other}

abbrev count_of : Row → ℕ
count_of row = row.count

-- the groups that are done and the one in hand, with the rows to come, are the groups of all rows; the counts fit
pub record Walked (front : List Group) (group : Group) (rest rows : List Row) : Type 0 where
  pub whole : front ++ with_group group (groups_of rest) ≡ groups_of rows
  pub fits : group.count + sum_by (λ (r : Row). r.count) rest ≤ 16777216

pub walk_start : (r : Row) (rest : List Row) → sum_by (λ (r : Row). r.count) (r ∷ rest) ≤ 16777216 → Walked [] (group_of r) rest (r ∷ rest)
unfolding groups_of
walk_start r rest fits = record { whole = refl; fits = omega (arith, sum_by-cons count_of r rest) }

pub walk_same : (front : List Group) (group : Group) (r : Row) (rest rows : List Row) → Walked front group (r ∷ rest) rows → same_kind group.kind r.kind ≡ true → Walked front (grown group r.count) rest rows
unfolding groups_of
walk_same front group r rest rows before same = record {
  whole = ap (λ (gs : List Group). front ++ gs) (sym (with_group-same group r (groups_of rest) same)) ∙ before.whole;
  fits = omega (arith, before.fits, sum_by-cons count_of r rest);
}

pub walk_other : (front : List Group) (group : Group) (r : Row) (rest rows : List Row) → Walked front group (r ∷ rest) rows → same_kind group.kind r.kind ≡ false → Walked (front ++ group ∷ []) (group_of r) rest rows
unfolding groups_of
walk_other front group r rest rows before other = record {
  whole = append_assoc front (group ∷ []) (with_group (group_of r) (groups_of rest)) ∙ ap (λ (gs : List Group). front ++ gs) (sym (with_group-other group r (groups_of rest) other)) ∙ before.whole;
  fits = omega (arith, before.fits, sum_by-cons count_of r rest);
}

pub walk_end : (front : List Group) (group : Group) (rows : List Row) → Walked front group [] rows → front ++ group ∷ [] ≡ groups_of rows
unfolding groups_of
walk_end front group rows before = before.whole

-- the rows from a place on are the row there and those behind it
pub next_row : (rest : List Row) (i : ℕ) (row : Row) → i < length rest → row ≡ get_or rest i row → drop i rest ≡ row ∷ drop (i + 1) rest
next_row rest i row within is = drop_more rest i row within ∙ ap (λ (r : Row). r ∷ drop (i + 1) rest) (sym is)
