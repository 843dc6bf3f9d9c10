use Rattle.std.proofs.Common.{get_or, arith}
use Rattle.pin_groups.proofs.Leftovers.{goes_on, found_row, passed_over, used_up-more}
use Rattle.pin_groups.proofs.spreading.row_for.Goals as goal

pub bounds-used_to-first : goal.bounds-used_to-first
bounds-used_to-first c =
    let first = c.first_of-first.result in
    let found = goes_on c.args.rows.now c.args.left.now c.args.kind first first c.requires.whole
    c.first_of-first.ensures.before (λ k late below. absurd (omega arith)) c.requires.some in
    omega (arith, found, c.requires.whole, c.requires.used_up.whole)

pub first_left-at-requires : goal.first_left-at-requires
first_left-at-requires c =
    let first = c.first_of-first.result in
    let begun = goes_on c.args.rows.now c.args.left.now c.args.kind first (get_or c.args.used_to.now first 0) c.requires.whole
    c.first_of-first.ensures.before (c.requires.used_up.none first) c.requires.some in
    omega (arith, begun, c.first_of-first.ensures.within, c.requires.whole, c.max.ensures)

pub bounds-used_to-first-2 : goal.bounds-used_to-first-2
bounds-used_to-first-2 c =
    let first = c.first_of-first.result in
    let found = goes_on c.args.rows.now c.args.left.now c.args.kind first first c.requires.whole
    c.first_of-first.ensures.before (λ k late below. absurd (omega arith)) c.requires.some in
    omega (arith, found, c.requires.whole, c.requires.used_up.whole)

pub returns-clause-within : goal.returns-clause-within
returns-clause-within c =
    let first = c.first_of-first.result in
    let skipped = passed_over c.args.left.now c.args.used_to.now first c.max.result c.first_left-at.result c.requires.used_up
    (λ k late from. omega (arith, c.max.ensures)) c.first_left-at.ensures.skipped in
    goes_on c.args.rows.now c.args.left.now c.args.kind first c.first_left-at.result c.requires.whole
    c.first_of-first.ensures.before skipped c.requires.some

pub returns-clause-kind : goal.returns-clause-kind
returns-clause-kind c =
    let first = c.first_of-first.result in
    let skipped = passed_over c.args.left.now c.args.used_to.now first c.max.result c.first_left-at.result c.requires.used_up
    (λ k late from. omega (arith, c.max.ensures)) c.first_left-at.ensures.skipped in
    (found_row c.args.rows.now c.args.left.now c.args.kind first c.first_left-at.result c.requires.rising c.requires.whole
    c.first_of-first.ensures.before c.first_of-first.ensures.behind (omega (arith, c.max.ensures, c.first_left-at.ensures.from)) skipped c.requires.some).1

pub returns-clause-some : goal.returns-clause-some
returns-clause-some c =
    let first = c.first_of-first.result in
    let skipped = passed_over c.args.left.now c.args.used_to.now first c.max.result c.first_left-at.result c.requires.used_up
    (λ k late from. omega (arith, c.max.ensures)) c.first_left-at.ensures.skipped in
    let within = goes_on c.args.rows.now c.args.left.now c.args.kind first c.first_left-at.result c.requires.whole
    c.first_of-first.ensures.before skipped c.requires.some in
    c.first_left-at.ensures.some (rw c.requires.whole within)

pub returns-clause-used_up : goal.returns-clause-used_up
returns-clause-used_up c =
    let first = c.first_of-first.result in
    let skipped = passed_over c.args.left.now c.args.used_to.now first c.max.result c.first_left-at.result c.requires.used_up
    (λ k late from. omega (arith, c.max.ensures)) c.first_left-at.ensures.skipped in
    let found = goes_on c.args.rows.now c.args.left.now c.args.kind first first c.requires.whole
    c.first_of-first.ensures.before (λ k late below. absurd (omega arith)) c.requires.some in
    used_up-more c.args.left.now c.args.used_to.now first c.first_left-at.result c.requires.used_up
    (omega (arith, found, c.requires.whole, c.requires.used_up.whole)) skipped
