use Rattle.std.proofs.Common.{◌≡◌, ℕ, Bool, ◌&&◌, ◌||◌, eqb, ltb, length, ap, ◌∙◌, arith}
use Rattle.std.proofs.lemmas.Bool.{and_right}
use Rattle.lb_types.specs.Servers.{has}
use Rattle.server_state.specs.Farm.{capacity_of}
use Rattle.lb_desk_pick.specs.Walks.{pins_without}
use Rattle.lb_desk_pick.proofs.Permitted.{able_more, able_all, no_room}
use Rattle.lb_desk_pick.proofs.candidates.with_room_for_a_pin.Goals as goal

pub loop-i-preserved : goal.loop-i-preserved
loop-i-preserved c s =
    let test : ℕ → Bool = λ k. has c.args.permitted k && ltb (pins_without c.args.book.now c.args.lost.now k) (capacity_of c.args.farm.now k) in
    c.with_if-found.ensures s
    ∙ (ap (λ (k : ℕ). (c.may_hold.result && eqb s k) || has c.loop-i.found s) c.new-server.ensures
    ∙ able_more test c.loop-i.i s c.may_hold.result (has c.loop-i.found s) (c.may_hold.ensures ∙ ap test c.new-server.ensures) (c.loop-i.invariant s))

pub returns : goal.returns
returns c s =
    let pins = pins_without c.args.book.now c.args.lost.now s in
    let room : Bool = ltb pins (capacity_of c.args.farm.now s) in
    let test : Bool = has c.args.permitted s && room in
    let n = length c.args.farm.now.servers in
    let many : c.len-i-end.result ≡ n = c.len-i-end.ensures.exact in
    let end : c.loop-i.i ≡ n = omega arith in
    c.loop-i.invariant s
    ∙ (ap (λ (k : ℕ). ltb s k && test) end
    ∙ able_all n s test (λ past. and_right (has c.args.permitted s) room (no_room c.args.farm.now pins s past)))
