-- The rows of one group after another, joined by kind, are the groups.
use Rattle.std.proofs.Common.{◌≡◌, ℕ, zero, suc, ◌+◌, ◌<◌, ◌≤◌, Bool, true, false, ltb, List, [], ◌∷◌, ◌++◌, length, drop, refl, sym, ap, ◌∙◌, append_assoc, append-nil, length-drop, arith}
use Rattle.std.specs.List.{All, AllPairs}
use Rattle.std.proofs.lemmas.Bool.{ltb-true, ltb-false}
use Rattle.std.proofs.lemmas.List.{drop_more, drop_all, get_or-drop}
use Rattle.std.proofs.lemmas.List.Elements.{All-head, All-get_or, All-from_get_or}
use Rattle.lb_types_pins.specs.declared.kind.PinKind.{PinKind}
use Rattle.lb_types_pins.specs.declared.kind.Group.{Group}
use Rattle.lb_types_pins.specs.declared.kind.Row.{Row}
use Rattle.lb_types_pins.specs.Kinds.{same_kind, kind_before}
use Rattle.lb_types_pins.proofs.Order.{same_kind-true, same_kind-refl, kind_before-irrefl}
use Rattle.dual_cert_plan.specs.Plans.{group_of, with_group, groups_of}
use Rattle.dual_cert_plan.proofs.OwnSheet.{with_group-same}
use Rattle.pin_set.specs.Costs.{sum_to}
use Rattle.cert_check_law.proofs.Sums.{sum_to-none, sum_to-suc}
use Rattle.flow_planner_net.specs.Networks.{NetworkParts, options, size, no_group, group_at, count}
use Rattle.flow_planner_net.specs.States.{AllPlaced}
use Rattle.flow_planner_net.specs.RowLists.{row_at, group_rows, rows_to, rows_of}
use Rattle.flow_planner_net.proofs.RowSums.{one_row, group_rows-more, group_rows-none, rows_to-more, rows_to-none}

abbrev group_with : PinKind → ℕ → Group
group_with kind n = record { kind = kind; count = n }

-- so many pins of the kind put in front of groups, where there are any
with_pins : PinKind → ℕ → List Group → List Group
with_pins kind zero groups = groups
with_pins kind (suc n) groups = with_group (group_with kind (suc n)) groups

groups_of-cons : (r : Row) (rows : List Row) → groups_of (r ∷ rows) ≡ with_group (group_of r) (groups_of rows)
unfolding groups_of
groups_of-cons r rows = refl

groups_of-nil : groups_of [] ≡ []
unfolding groups_of
groups_of-nil = refl

with_pins-none : (kind : PinKind) (groups : List Group) → with_pins kind 0 groups ≡ groups
unfolding with_pins
with_pins-none kind groups = refl

with_pins-some : (kind : PinKind) (n : ℕ) (groups : List Group) → 0 < n → with_pins kind n groups ≡ with_group (group_with kind n) groups
unfolding with_pins
with_pins-some kind zero groups some = absurd (omega arith)
with_pins-some kind (suc n) groups some = refl

-- the pins of one row more
with_pins-more : (r : Row) (n : ℕ) (groups : List Group) → 0 < r.count
    → with_pins r.kind n (with_group (group_of r) groups) ≡ with_pins r.kind (n + r.count) groups
with_pins-more r zero groups some =
    let same : r.count ≡ 0 + r.count = omega arith in
    with_pins-none r.kind (with_group (group_of r) groups)
    ∙ (sym (with_pins-some r.kind r.count groups some) ∙ ap (λ n. with_pins r.kind n groups) same)
with_pins-more r (suc n) groups some =
    with_pins-some r.kind (suc n) (with_group (group_of r) groups) (omega arith)
    ∙ (with_group-same (group_with r.kind (suc n)) r groups (same_kind-refl r.kind)
    ∙ sym (with_pins-some r.kind (suc n + r.count) groups (omega arith)))

-- a group before all others stays in front of them
with_group-before : (g : Group) (groups : List Group) → All (λ h. kind_before g.kind h.kind ≡ true) groups → with_group g groups ≡ g ∷ groups
with_group-before g [] later = refl
with_group-before g (next ∷ groups) later =
    let before : kind_before g.kind next.kind ≡ true = All-head (λ (h : Group). kind_before g.kind h.kind ≡ true) next groups later in
    let apart : (b : Bool) → same_kind g.kind next.kind ≡ b → same_kind g.kind next.kind ≡ false =
    λ b. elim b as (λ b. same_kind g.kind next.kind ≡ b → same_kind g.kind next.kind ≡ false) [
      | true ↦ λ e.
          let same : g.kind ≡ next.kind = same_kind-true g.kind next.kind e in
          let self : kind_before g.kind next.kind ≡ kind_before next.kind next.kind = ap (λ (k : PinKind). kind_before k next.kind) same in
          let never = kind_before-irrefl next.kind in
          absurd cc
      | false ↦ λ e. e
    ] in
    rw (apart (same_kind g.kind next.kind) refl) refl

module _ (network : NetworkParts) (used : ℕ → ℕ → ℕ) where
  -- what `grouped-one` says of the first options
  abbrev GroupsFirst : ℕ → ℕ → Type 0
  GroupsFirst g o = (rows : List Row)
      → groups_of (group_rows network used g o ++ rows) ≡ with_pins (group_at network g).kind (sum_to o (λ k. used k g)) (groups_of rows)

  grouped-more : (g o : ℕ) (rows : List Row) → GroupsFirst g o → (b : Bool) → ltb 0 (used o g) ≡ b
      → groups_of (group_rows network used g o ++ (one_row network used g o b ++ rows)) ≡ with_pins (group_at network g).kind (sum_to (suc o) (λ k. used k g)) (groups_of rows)
  grouped-more g o rows before true is =
      let kind = (group_at network g).kind in
      let so_far = sum_to o (λ k. used k g) in
      let r = row_at network used g o in
      let more : so_far + used o g ≡ sum_to (suc o) (λ k. used k g) = sym (sum_to-suc o (λ k. used k g)) in
      before (r ∷ rows)
      ∙ (ap (with_pins kind so_far) (groups_of-cons r rows)
      ∙ (with_pins-more r so_far (groups_of rows) (ltb-true 0 (used o g) is)
      ∙ ap (λ n. with_pins kind n (groups_of rows)) more))
  grouped-more g o rows before false is =
      let kind = (group_at network g).kind in
      let so_far = sum_to o (λ k. used k g) in
      let none : so_far ≡ sum_to (suc o) (λ k. used k g) = omega (arith, sum_to-suc o (λ k. used k g), ltb-false 0 (used o g) is) in
      before rows ∙ ap (λ n. with_pins kind n (groups_of rows)) none

  -- the rows of one group, in front of others, are its pins in front of the others' groups
  grouped-one : (g o : ℕ) → GroupsFirst g o
  grouped-one g zero rows =
      rw (group_rows-none network used g, sum_to-none (λ k. used k g)) (sym (with_pins-none (group_at network g).kind (groups_of rows)))
  grouped-one g (suc o) rows =
      ap (λ (front : List Row). groups_of (front ++ rows)) (group_rows-more network used g o)
      ∙ (ap groups_of (append_assoc (group_rows network used g o) (one_row network used g o (ltb 0 (used o g))) rows)
      ∙ grouped-more g o rows (grouped-one g o) (ltb 0 (used o g)) refl)

module _ (network : NetworkParts) (used : ℕ → ℕ → ℕ) (placed : AllPlaced network used)
    (counted : All (λ g. 1 ≤ g.count) network.groups) (rising : AllPairs (λ a b. kind_before a.kind b.kind ≡ true) network.groups) where
  later : (g : ℕ) → g < size network → All (λ h. kind_before (group_at network g).kind h.kind ≡ true) (drop (g + 1) network.groups)
  later g within =
      All-from_get_or (λ (h : Group). kind_before (group_at network g).kind h.kind ≡ true) (drop (g + 1) network.groups) no_group (λ j inside.
      let many = length-drop (g + 1) network.groups in
      let above : g < g + 1 + j = omega arith in
      let below : g + 1 + j < length network.groups = omega arith in
      rw (get_or-drop (g + 1) network.groups j no_group) (rising g (g + 1 + j) no_group above below))

  count-is : (g : ℕ) → count network g ≡ (group_at network g).count
  unfolding count
  count-is g = refl

  -- the rows of a group in front of those of the groups behind it
  grouped-next : (g : ℕ) (rows : List Row) → g < size network → groups_of rows ≡ drop (g + 1) network.groups
      → groups_of (group_rows network used g (options network) ++ rows) ≡ drop g network.groups
  grouped-next g rows within behind =
      let group = group_at network g in
      let rest = drop (g + 1) network.groups in
      let pins : sum_to (options network) (λ k. used k g) ≡ group.count = placed g within ∙ count-is g in
      let some : 1 ≤ group.count = All-get_or (λ (h : Group). 1 ≤ h.count) network.groups g no_group within counted in
      grouped-one network used g (options network) rows
      ∙ (ap (λ n. with_pins group.kind n (groups_of rows)) pins
      ∙ (ap (with_pins group.kind group.count) behind
      ∙ (with_pins-some group.kind group.count rest some
      ∙ (with_group-before group rest (later g within)
      ∙ sym (drop_more network.groups g no_group within)))))

  grouped-to : (g : ℕ) (rows : List Row) → g ≤ size network → groups_of rows ≡ drop g network.groups → groups_of (rows_to network used g ++ rows) ≡ network.groups
  grouped-to zero rows within behind = rw (rows_to-none network used) behind
  grouped-to (suc g) rows within behind =
      let next : suc g ≡ g + 1 = omega arith in
      let here : groups_of rows ≡ drop (g + 1) network.groups = behind ∙ ap (λ k. drop k network.groups) next in
      ap (λ (front : List Row). groups_of (front ++ rows)) (rows_to-more network used g)
      ∙ (ap groups_of (append_assoc (rows_to network used g) (group_rows network used g (options network)) rows)
      ∙ grouped-to g (group_rows network used g (options network) ++ rows) (omega arith) (grouped-next g rows (omega arith) here))

  pub grouped : groups_of (rows_of network used) ≡ network.groups
  grouped =
      let none : groups_of [] ≡ drop (size network) network.groups = groups_of-nil ∙ sym (drop_all (size network) network.groups (omega arith)) in
      ap groups_of (sym (append-nil (rows_of network used))) ∙ grouped-to (size network) [] (omega arith) none
