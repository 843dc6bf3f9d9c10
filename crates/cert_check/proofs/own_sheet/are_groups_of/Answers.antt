use Rattle.std.proofs.Common.{◌≡◌, ◌+◌, ◌≤◌, Some, List, [], ◌∷◌, length, drop, take, sym, ap, subst, ◌∙◌, arith}
use Rattle.std.specs.List.{sum_by, slice_get}
use Rattle.std.proofs.lemmas.List.{drop_all}
use Rattle.std.proofs.lemmas.Bool.{eqb-true, eq-eqb, false≢true}
use Rattle.std.proofs.lemmas.Option.{slice_get_within}
use Rattle.lb_types_pins.specs.declared.kind.Row.{Row}
use Rattle.lb_types_pins.specs.declared.kind.Group.{Group}
use Rattle.dual_cert_plan.specs.Plans.{group_of, with_group, groups_of}
use Rattle.dual_cert_plan.proofs.Walk.{Walked, walk_start, walk_same, walk_end, next_row}
use Rattle.cert_check.proofs.Walks.{stands_there, group_ends, walk_on, whole_from, last_from, no_groups, none_from}
use Rattle.cert_check.proofs.own_sheet.are_groups_of.Goals as goal
use Rattle.cert_check.proofs.own_sheet.are_groups_of.Goals.{then-eq, else-eq+else-not-stands_at}

pub returns-in_default : goal.returns-in_default
returns-in_default c =
    let rows = c.args.rows.now in
    let groups = c.args.groups.now in
    let none = no_groups rows c.in_default.ensures.cases in (
      λ yes. none ∙ sym (none_from groups (eqb-true (length groups) 0 (sym c.is_empty.ensures ∙ yes))),
      λ whole. c.is_empty.ensures ∙ eq-eqb (length groups) 0 (ap (λ (gs : List Group). length gs) (sym whole ∙ none)),
    )

pub loop-row-init : goal.loop-row-init
loop-row-init c =
    let fits : sum_by (λ (r : Row). r.count) (c.in-Some.first.now ∷ c.in-Some.rest.now) ≤ 16777216 =
    subst (λ (rows : List Row). sum_by (λ (r : Row). r.count) rows ≤ 16777216) c.in-Some.ensures.cases.0 c.requires.total in
    (omega arith, rw (c.group_of-group.ensures, c.in-Some.ensures.cases.0) (walk_start c.in-Some.first.now c.in-Some.rest.now fits))

pub returns-then-not-stands_at : goal.returns-then-not-stands_at
returns-then-not-stands_at c =
    let here = c.loop-row in
    let rest = c.in-Some.rest.now in
    let groups = c.args.groups.now in
    let rows = c.args.rows.now in
    let row = c.row-item.result in
    let later = drop (here.row-index + 1) rest in
    let next = next_row rest here.row-index row (omega arith) c.row-item.is in
    let step : Walked (take here.at groups) here.group (row ∷ later) rows =
    subst (λ (rs : List Row). Walked (take here.at groups) here.group rs rows) next here.invariant.1 in
    let ends = group_ends (take here.at groups) here.group row later rows step (sym c.eq.ensures ∙ c.if-eq.false) in (
      λ no. absurd cc,
      λ whole.
          let there = stands_there groups here.at here.group (with_group (group_of row) (groups_of later)) here.invariant.0 (ends ∙ whole) in
          absurd (false≢true (sym c.if-not-stands_at.true ∙ c.stands_at.ensures.1 there)),
    )

pub loop-row-preserved : goal.loop-row-preserved
loop-row-preserved c =
    let here = c.loop-row in
    let rest = c.in-Some.rest.now in
    let groups = c.args.groups.now in
    let rows = c.args.rows.now in
    let row = c.row-item.result in
    let later = drop (here.row-index + 1) rest in
    let next = next_row rest here.row-index row (omega arith) c.row-item.is in
    let step : Walked (take here.at groups) here.group (row ∷ later) rows =
    subst (λ (rs : List Row). Walked (take here.at groups) here.group rs rows) next here.invariant.1 in
    elim c.if-eq.branch [
      | then-eq w ↦ rw (w.group-is, w.at-is)
          (omega arith, walk_same (take here.at groups) here.group row later rows step (sym c.eq.ensures ∙ w.if-eq.true))
      | else-eq+else-not-stands_at w ↦
          let there : slice_get groups here.at ≡ Some here.group = w.stands_at.ensures.0 w.if-not-stands_at.false in
          let within = slice_get_within groups here.at here.group there in
          rw (w.group-is, w.at-is, w.group_of-group-else-eq.ensures)
          (omega arith, walk_on groups here.at here.group row later rows step (sym c.eq.ensures ∙ w.if-eq.false) there)
    ]

pub returns-then-stands_at : goal.returns-then-stands_at
returns-then-stands_at c =
    let here = c.loop-row in
    let groups = c.args.groups.now in
    let rows = c.args.rows.now in
    let none : drop here.row-index c.in-Some.rest.now ≡ [] = drop_all here.row-index c.in-Some.rest.now (omega arith) in
    let last : Walked (take here.at groups) here.group [] rows =
    subst (λ (rs : List Row). Walked (take here.at groups) here.group rs rows) none here.invariant.1 in
    let end = walk_end (take here.at groups) here.group rows last in
    let there : slice_get groups here.at ≡ Some here.group = c.stands_at-2.ensures.0 c.if-stands_at.true in (
      λ yes. whole_from groups here.at here.group rows end there (eqb-true (here.at + 1) (length groups) yes),
      λ whole. eq-eqb (here.at + 1) (length groups) (last_from groups here.at here.group rows here.invariant.0 end whole),
    )

pub returns-else-stands_at : goal.returns-else-stands_at
returns-else-stands_at c =
    let here = c.loop-row in
    let groups = c.args.groups.now in
    let rows = c.args.rows.now in
    let none : drop here.row-index c.in-Some.rest.now ≡ [] = drop_all here.row-index c.in-Some.rest.now (omega arith) in
    let last : Walked (take here.at groups) here.group [] rows =
    subst (λ (rs : List Row). Walked (take here.at groups) here.group rs rows) none here.invariant.1 in
    let end = walk_end (take here.at groups) here.group rows last in (
      λ yes. absurd (false≢true (sym c.if-stands_at.false ∙ yes)),
      λ whole. c.stands_at-2.ensures.1 (stands_there groups here.at here.group [] here.invariant.0 (end ∙ whole)),
    )
