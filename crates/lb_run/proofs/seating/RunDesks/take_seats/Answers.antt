use Rattle.std.proofs.Common.{◌≡◌, ◌∙◌, ℕ, List, [], ◌∷◌, ◌++◌, take, map, get_or, sym, ap}
use mathlib.Core.List.{map-append}
use Rattle.std.proofs.lemmas.List.{take_all, take_more}
use Rattle.lb_desk_seat.specs.Seats.{SeatView}
use Rattle.lb_run.proofs.seating.RunDesks.take_seats.Goals as goal

pub loop-desk-preserved : goal.loop-desk-preserved
loop-desk-preserved g c =
    let keeper : SeatView → ℕ = λ seat. seat.pass.keeper in
    let desks = c.args.self.now.desks.now in
    let all = c.loop-desk.seats.items in
    let i = c.loop-desk.desk-index in
    let last : c.enter.result.pass.keeper ≡ get_or desks i c.desk-item.result = c.enter.ensures ∙ c.desk-item.is in
    ap (λ (l : List SeatView). map keeper l) c.in_ok-push.ensures.items
    ∙ map-append keeper all (c.enter.result ∷ [])
    ∙ ap (λ (l : List ℕ). l ++ c.enter.result.pass.keeper ∷ []) c.loop-desk.invariant
    ∙ ap (λ (n : ℕ). take i desks ++ n ∷ []) last
    ∙ sym (take_more desks i c.desk-item.result c.loop-desk-test.true)

pub returns-clause-desks : goal.returns-clause-desks
returns-clause-desks g c =
    c.loop-desk.invariant ∙ take_all c.loop-desk.desk-index c.args.self.now.desks.now c.loop-desk-test.false
