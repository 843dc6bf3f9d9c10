use Rattle.std.proofs.Common.{◌≡◌, ◌≤◌, cond, ℕ, get_or, ap, arith}
use Rattle.std.proofs.lemmas.List.{get_or_default}
use Rattle.lb_types_pins.specs.declared.kind.PinKind.{PinKind}
use Rattle.lb_types_pins.specs.declared.kind.Row.{Row}
use Rattle.pin_set.specs.Rows.{is_move}
use Rattle.pin_moves.proofs.Taking.{IsFirstLeft, order_less, sum_less, behind_used}
use Rattle.pin_moves.proofs.sharing.take.Goals as goal

pub returns-clause-ordered : goal.returns-clause-ordered
returns-clause-ordered c =
    let left = c.args.left.now in
    let at = c.first_left.result in
    let row = get_or left at c.index-left-first_left.result in
    let first : IsFirstLeft (λ (r : Row). r.kind) (λ (r : Row). r.count) left c.args.kind at =
    record { within = c.first_left.ensures.within; same = c.first_left.ensures.kind; some = c.first_left.ensures.some; first = c.first_left.ensures.first } in
    order_less left c.args.kind at c.min-count.result row c.requires.ordered first (get_or_default left at c.index-left-first_left.result row first.within)

pub returns-clause-sent : goal.returns-clause-sent
returns-clause-sent c = λ other to.
    let left = c.args.left.now in
    let at = c.first_left.result in
    let row = get_or left at c.index-left-first_left.result in
    let read = get_or_default left at c.index-left-first_left.result row c.first_left.ensures.within in
    let enough : c.min-count.result ≤ row.count = omega (arith, c.min-count.ensures, ap (λ (r : Row). r.count) c.index-left-first_left.is) in
    let all = sum_less (λ kind place. is_move other to (kind, place)) left at c.min-count.result row c.first_left.ensures.within read enough in
    let same : cond {A = ℕ} (is_move other to (row.kind, row.new_place)) c.min-count.result 0 ≡ cond {A = ℕ} (is_move other to (c.args.kind, row.new_place)) c.min-count.result 0 =
    ap (λ (k : PinKind). cond {A = ℕ} (is_move other to (k, row.new_place)) c.min-count.result 0) (c.first_left.ensures.kind c.index-left-first_left.result) in
    omega arith

pub returns-clause-used_up : goal.returns-clause-used_up
returns-clause-used_up c = λ fewer.
    let left = c.args.left.now in
    let at = c.first_left.result in
    let row = get_or left at c.index-left-first_left.result in
    let first : IsFirstLeft (λ (r : Row). r.kind) (λ (r : Row). r.count) left c.args.kind at =
    record { within = c.first_left.ensures.within; same = c.first_left.ensures.kind; some = c.first_left.ensures.some; first = c.first_left.ensures.first } in
    let all : row.count ≤ c.min-count.result = omega (arith, c.min-count.ensures, ap (λ (r : Row). r.count) c.index-left-first_left.is) in
    behind_used left c.args.kind at c.min-count.result row c.requires.ordered first (get_or_default left at c.index-left-first_left.result row first.within) all
