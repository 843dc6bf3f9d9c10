use Rattle.std.proofs.Common.{◌≡◌, length, drop, subst, ◌∙◌, ap, arith}
use Rattle.std.proofs.lemmas.Grind.{common_steps}
use Rattle.http_relay_wire.specs.Wires.{AppendsBeginning}
use Rattle.http_relay_body.proofs.Fronts.{behind_is}
use Rattle.http_relay_dial.specs.Dials.{talk_of}
use Rattle.http_relay_exchange.proofs.Openings.{opening_within, rest_unwritten}
use Rattle.http_relay_exchange.proofs.heading.send_rest.Goals as goal

pub returns-in-Err : goal.returns-in-Err
returns-in-Err g c before begun =
    let request = c.args.request.now in
    let server = talk_of g.S.Wire.written g.S.Wire.reading g.S.Wire.faults in
    let few = opening_within request in
    let of_opening = ap (λ xs. length xs) c.opening.ensures in
    let of_head = ap (λ xs. length xs) c.head-head.ensures in
    let same : c.min-taken.result ≡ c.args.taken = grind (arith, common_steps, c.min.ensures, c.min-taken.ensures, few, of_opening, of_head, begun.0) in
    let rest = behind_is c.min-taken.result c.head-head.result.now ∙ ap (drop c.min-taken.result) c.head-head.ensures ∙ ap (λ n. drop n request.head) same in
    rest_unwritten request c.args.taken c.in-Err.fault before (server c.args.server.now) (server c.write_all.new.wire) begun
    (subst (λ xs. AppendsBeginning (g.S.Wire.written c.args.server.now) (g.S.Wire.written c.write_all.new.wire) xs) rest c.in-Err.ensures.err)
    c.in-Err.ensures.reading c.in-Err.ensures.faults
