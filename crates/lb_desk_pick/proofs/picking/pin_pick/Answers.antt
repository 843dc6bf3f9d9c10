use Rattle.std.proofs.Common.{◌≡◌, ℕ, ◌-◌, ◌<◌, ◌&&◌, cond, ltb, length, sym, ap, ◌∙◌, subst}
use Rattle.lb_types.specs.Servers.{has}
use Rattle.pin_set.specs.Assignments.{is_at}
use Rattle.pin_set.specs.Pins.{permitted}
use Rattle.server_state.specs.Farm.{usable, set_of, capacity_of}
use Rattle.lb_desk_model.specs.Serves.{load, pick, staying}
use Rattle.lb_desk_pick.specs.Walks.{HaveWeights, pins_without}
use Rattle.lb_desk_pick.proofs.Permitted.{permitted_weigh, weigh_among, candidates_seen, loads_of_all, loads_of_staying}
use Rattle.lb_desk_pick.proofs.picking.pin_pick.Goals as goal

pub pick-requires : goal.pick-requires
pick-requires c =
    let farm = c.args.farm.now in
    let same : c.permitted-permitted.result ≡ permitted c.set_of.result (usable farm) = c.permitted-permitted.ensures ∙ ap (permitted c.set_of.result) c.usable.ensures.exact in
    let weighted = subst (λ (set : ℕ). HaveWeights farm set) (sym same) (permitted_weigh farm c.set_of.result) in
    weigh_among farm c.with_room_for_a_pin-candidates.result c.permitted-permitted.result
    (λ s. ltb (pins_without c.args.book.now c.args.lost s) (capacity_of farm s)) weighted c.with_room_for_a_pin-candidates.ensures

pub returns-clause-moved : goal.returns-clause-moved
returns-clause-moved c none state request seen same =
    let farm = c.args.farm.now in
    let book = c.args.book.now in
    let rules = c.args.rules.now in
    let set : c.permitted-permitted.result ≡ permitted (set_of rules) (usable farm) = c.permitted-permitted.ensures ∙ (λ i. permitted (c.set_of.ensures i) (c.usable.ensures.exact i)) in
    let loads : (s : ℕ) → s < length state.servers → pins_without book c.args.lost s ≡ load state.pins s =
    λ s below. loads_of_all book c.args.lost (load state.pins s) s none (seen.loads s below) in
    let may = candidates_seen c.args.balance farm book c.args.cursor rules c.args.lost c.with_room_for_a_pin-candidates.result state request seen same state.pins loads
    (λ s. c.with_room_for_a_pin-candidates.ensures s ∙ ap (λ (n : ℕ). has n s && ltb (pins_without book c.args.lost s) (capacity_of farm s)) set) in
    c.pick.ensures state request seen same ∙ ap (pick state request) may

pub returns-clause-made : goal.returns-clause-made
returns-clause-made c state request seen same left =
    let farm = c.args.farm.now in
    let book = c.args.book.now in
    let rules = c.args.rules.now in
    let set : c.permitted-permitted.result ≡ permitted (set_of rules) (usable farm) = c.permitted-permitted.ensures ∙ (λ i. permitted (c.set_of.ensures i) (c.usable.ensures.exact i)) in
    let place = sym left in
    let loads : (s : ℕ) → s < length state.servers → pins_without book c.args.lost s ≡ load (staying state) s =
    λ s below. (λ i. seen.loads s below i - cond (is_at s (place i)) 1 0) ∙ loads_of_staying state s in
    let may = candidates_seen c.args.balance farm book c.args.cursor rules c.args.lost c.with_room_for_a_pin-candidates.result state request seen same (staying state) loads
    (λ s. c.with_room_for_a_pin-candidates.ensures s ∙ ap (λ (n : ℕ). has n s && ltb (pins_without book c.args.lost s) (capacity_of farm s)) set) in
    c.pick.ensures state request seen same ∙ ap (pick state request) may
