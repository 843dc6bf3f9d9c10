use Rattle.std.proofs.Common.{◌≡◌, ◌<◌, ◌≤◌, [], length, take, sym, ◌∙◌, ap, arith}
use Rattle.std.proofs.lemmas.Grind.{common_steps}
use Rattle.std.proofs.lemmas.List.{length-take-le}
use Rattle.http_relay_body.proofs.Lines.{empty}
use Rattle.http_relay_dial.specs.Dials.{talk_of}
use Rattle.http_relay_exchange.specs.Exchanges.{wrote}
use Rattle.http_relay_exchange.proofs.Joined.{front_of}
use Rattle.http_relay_exchange.proofs.Openings.{began_with_nothing, both_handed, none_with_body}
use Rattle.http_relay_exchange.proofs.heading.send_head.Goals as goal

pub returns-then-front-eq0-clause-sent : goal.returns-then-front-eq0-clause-sent
returns-then-front-eq0-clause-sent g c before begun =
    let request = c.args.request.now in
    let found = c.of-front.ensures in
    let fits : c.min-most.result ≤ length c.behind-behind.result.now = grind (arith, common_steps, c.min-most.ensures) in
    let front = front_of request c.kind.result c.behind-behind.result.now c.min-most.result c.of-front.result c.kind.ensures c.behind-behind.ensures fits found.within found.front in
    let none = c.if-front-eq0.true in
    let size = length-take-le c.of-front.result.len request.behind (omega (arith, none)) in
    let nothing : take c.of-front.result.len request.behind ≡ [] = empty (take c.of-front.result.len request.behind) (size ∙ none) in (
      front.0,
      front.1,
      c.in_ok-send_rest.ensures before begun ∙ ap (wrote (wrote before request.head)) (sym nothing),
    )

pub returns-in_err-send_both-clause-sent : goal.returns-in_err-send_both-clause-sent
returns-in_err-send_both-clause-sent g c before begun =
    let request = c.args.request.now in
    let found = c.of-front.ensures in
    let talk = talk_of g.S.Wire.written g.S.Wire.reading g.S.Wire.faults in
    let fits : c.min-most.result ≤ length c.behind-behind.result.now = grind (arith, common_steps, c.min-most.ensures) in
    let front = front_of request c.kind.result c.behind-behind.result.now c.min-most.result c.of-front.result c.kind.ensures c.behind-behind.ensures fits found.within found.front in
    let some : 0 < length request.behind = omega (arith, front.0, c.if-front-eq0.false) in
    both_handed request c.of-front.result.len c.head-head.result.now (take c.of-front.result.len c.behind-behind.result.now)
    before (talk c.args.server.now) (talk c.send_both.new.server) c.from_residual-in_err-send_both.result c.in_err-send_both.field-0.0
    c.head-head.ensures (ap (take c.of-front.result.len) c.behind-behind.ensures)
    (began_with_nothing request c.args.taken before (talk c.args.server.now) (none_with_body request some) begun)
    c.from_residual-in_err-send_both.ensures.1 c.in_err-send_both.ensures

pub returns-clause-sent : goal.returns-clause-sent
returns-clause-sent g c before begun =
    let request = c.args.request.now in
    let found = c.of-front.ensures in
    let old = talk_of g.S.Wire.written g.S.Wire.reading g.S.Wire.faults c.args.server.now in
    let fits : c.min-most.result ≤ length c.behind-behind.result.now = grind (arith, common_steps, c.min-most.ensures) in
    let front = front_of request c.kind.result c.behind-behind.result.now c.min-most.result c.of-front.result c.kind.ensures c.behind-behind.ensures fits found.within found.front in
    let some : 0 < length request.behind = omega (arith, front.0, c.if-front-eq0.false) in
    let same = began_with_nothing request c.args.taken before old (none_with_body request some) begun in (
      front.0,
      front.1,
      c.in_ok-send_both.ensures ∙ ap (λ head. wrote (wrote old head) (take c.of-front.result.len c.behind-behind.result.now)) c.head-head.ensures
          ∙ ap (λ behind. wrote (wrote old request.head) (take c.of-front.result.len behind)) c.behind-behind.ensures
          ∙ ap (λ talk. wrote (wrote talk request.head) (take c.of-front.result.len request.behind)) same,
    )
