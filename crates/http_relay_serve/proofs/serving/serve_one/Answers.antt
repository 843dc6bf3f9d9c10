use Rattle.std.proofs.Common.{sym, ◌∙◌}
use Rattle.http_relay_dial.specs.Dials.{talk_of}
use Rattle.http_relay_serve.proofs.OwnAnswers.{relay_is_quiet, got_answer}
use Rattle.http_relay_serve.specs.Serves.{port_seen, clock_seen, dialer_seen, scene}
use Rattle.http_relay_serve.proofs.serving.serve_one.Goals as goal

pub returns-clause-answer : goal.returns-clause-answer
returns-clause-answer g c =
    let talk = talk_of g.C.Wire.written g.C.Wire.reading g.C.Wire.faults in
    got_answer c.of.result c.end.result (talk c.args.client.now.wire) (talk c.relay-relayed.new.client.wire) (talk c.end.new.client)
    (λ cause due. relay_is_quiet (port_seen g.P.Port.entries g.P.Port.refusals) g.P.Port.server_of (g.T.Routing.routes c.args.routing.now)
    c.args.client.now.source c.args.ports.now c.relay-relayed.new.ports
    (scene (clock_seen g.K.Clock.told g.K.Clock.pauses c.args.worker.now.clock)
    (dialer_seen g.D.Dialer.dials g.D.Dialer.talks g.D.Dialer.failures c.args.worker.now.dialer) (talk c.args.client.now.wire))
    (scene (clock_seen g.K.Clock.told g.K.Clock.pauses c.relay-relayed.new.worker.clock)
    (dialer_seen g.D.Dialer.dials g.D.Dialer.talks g.D.Dialer.failures c.relay-relayed.new.worker.dialer) (talk c.relay-relayed.new.client.wire))
    c.relay-relayed.result c.relay-relayed.ensures cause (sym c.of.ensures ∙ due))
    c.end.ensures
