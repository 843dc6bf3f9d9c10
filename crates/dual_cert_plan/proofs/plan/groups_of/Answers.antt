use Rattle.std.proofs.Common.{◌≡◌, ◌+◌, ◌≤◌, List, [], ◌∷◌, length, drop, refl, sym, subst, ◌∙◌, arith}
use Rattle.std.specs.List.{sum_by}
use Rattle.std.proofs.lemmas.List.{drop_all}
use Rattle.lb_types_pins.specs.declared.kind.Row.{Row}
use Rattle.dual_cert_plan.specs.Plans.{groups_of}
use Rattle.dual_cert_plan.proofs.Walk.{Walked, walk_start, walk_same, walk_other, walk_end, next_row}
use Rattle.dual_cert_plan.proofs.plan.groups_of.Goals as goal
use Rattle.dual_cert_plan.proofs.plan.groups_of.Goals.{then-eq, else-eq+in_ok-push}

no_rows : (rows : List Row) → length rows ≡ 0 → groups_of rows ≡ []
unfolding groups_of
no_rows [] none = refl
no_rows (r ∷ rows) none = absurd (omega arith)

pub returns-in_default : goal.returns-in_default
returns-in_default c = c.new-groups.ensures.items ∙ sym (no_rows c.args.rows.now c.in_default.ensures.cases)

pub loop-row-init : goal.loop-row-init
loop-row-init c =
    let fits : sum_by (λ (r : Row). r.count) (c.in-Some.first.now ∷ c.in-Some.rest.now) ≤ 16777216 =
    subst (λ (rows : List Row). sum_by (λ (r : Row). r.count) rows ≤ 16777216) c.in-Some.ensures.cases.0 c.requires in
    rw (c.new-groups.ensures.items, c.group_of-group.ensures, c.in-Some.ensures.cases.0)
    (walk_start c.in-Some.first.now c.in-Some.rest.now fits)

pub loop-row-preserved : goal.loop-row-preserved
loop-row-preserved c =
    let here = c.loop-row in
    let rest = c.in-Some.rest.now in
    let later = drop (here.row-index + 1) rest in
    let next = next_row rest here.row-index c.row-item.result (omega arith) c.row-item.is in
    let step : Walked here.groups.items here.group (c.row-item.result ∷ later) c.args.rows.now =
    subst (λ (rows : List Row). Walked here.groups.items here.group rows c.args.rows.now) next here.invariant in
    elim c.if-eq.branch [
      | then-eq w ↦ rw (w.groups-is, w.group-is)
          (walk_same here.groups.items here.group c.row-item.result later c.args.rows.now step (sym c.eq.ensures ∙ w.if-eq.true))
      | else-eq+in_ok-push w ↦ rw (w.groups-is, w.group-is, w.in_ok-push.ensures.items, w.group_of-group-else-eq.ensures)
          (walk_other here.groups.items here.group c.row-item.result later c.args.rows.now step (sym c.eq.ensures ∙ w.if-eq.false))
    ]

pub returns : goal.returns
returns c =
    let here = c.loop-row in
    let none : drop here.row-index c.in-Some.rest.now ≡ [] = drop_all here.row-index c.in-Some.rest.now (omega arith) in
    let last : Walked here.groups.items here.group [] c.args.rows.now =
    subst (λ (rows : List Row). Walked here.groups.items here.group rows c.args.rows.now) none here.invariant in
    rw c.in_ok-push-2.ensures.items (walk_end here.groups.items here.group c.args.rows.now last)
