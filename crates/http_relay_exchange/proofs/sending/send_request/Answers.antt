use Rattle.std.proofs.Common.{drop, Ok, Err, ◌∙◌, ap}
use Rattle.http_relay_body.proofs.Fronts.{behind, behind_is}
use Rattle.http_relay_dial.specs.Dials.{talk_of}
use Rattle.http_relay_exchange.proofs.Stages.{head_handed, sends_rest}
use Rattle.http_relay_exchange.proofs.sending.send_request.Goals as goal

pub returns-in_err-front : goal.returns-in_err-front
returns-in_err-front g c before begun =
    let client = talk_of g.C.Wire.written g.C.Wire.reading g.C.Wire.faults in
    let server = talk_of g.S.Wire.written g.S.Wire.reading g.S.Wire.faults in
    head_handed c.args.request.now (client c.args.client.now) (client c.invite.new.client) before (server c.send_head.new.server)
    c.from_residual.result _ c.from_residual.ensures.1 c.in_default.ensures (c.in_err-front.ensures.sent before begun)

pub returns-in-Ok : goal.returns-in-Ok
returns-in-Ok g c before begun =
    let client = talk_of g.C.Wire.written g.C.Wire.reading g.C.Wire.faults in
    let server = talk_of g.S.Wire.written g.S.Wire.reading g.S.Wire.faults in
    let front = c.in_ok-front.front in
    let told = c.in-Ok.ensures in
    sends_rest c.args.request.now front (behind front.len c.behind.result.now)
    (client c.args.client.now) (client c.invite.new.client) (client c.send_body.new.client)
    before (server c.send_head.new.server) (server c.send_body.new.server)
    (Ok c.in-Ok.field-0)
    (behind_is front.len c.behind.result.now ∙ ap (drop front.len) c.behind.ensures) c.in_default.ensures (c.in_ok-front.ensures.sent before begun)
    told.sent told.client told.server told.client_written told.server_reading

pub returns-in-Err-send_body : goal.returns-in-Err-send_body
returns-in-Err-send_body g c before begun =
    let client = talk_of g.C.Wire.written g.C.Wire.reading g.C.Wire.faults in
    let server = talk_of g.S.Wire.written g.S.Wire.reading g.S.Wire.faults in
    let front = c.in_ok-front.front in
    let told = c.in-Err-send_body.ensures in
    sends_rest c.args.request.now front (behind front.len c.behind.result.now)
    (client c.args.client.now) (client c.invite.new.client) (client c.send_body.new.client)
    before (server c.send_head.new.server) (server c.send_body.new.server)
    (Err c.in-Err-send_body.fault)
    (behind_is front.len c.behind.result.now ∙ ap (drop front.len) c.behind.ensures) c.in_default.ensures (c.in_ok-front.ensures.sent before begun)
    told.sent told.client told.server told.client_written told.server_reading
