use Rattle.std.proofs.Common.{[], subst, sym}
use Rattle.http_relay_dial.specs.Dials.{talk_of}
use Rattle.http_relay_queue.proofs.Waits.{grows_none}
use Rattle.lb_desk_ports.specs.Calls.{Grows}
use Rattle.http_relay_talk.specs.Openings.{HasLeftQueue, Passes}
use Rattle.http_relay_talk.specs.Shares.{nothing, records}
use Rattle.http_relay_talk.specs.declared.underway.Step.TheVariants.{Waits, Done}
use Rattle.http_relay_talk.proofs.Passing.{passed, passes_twice, visited}
use Rattle.http_relay_talk.proofs.visiting.visit.Goals as goal

pub returns-in-Done : goal.returns-in-Done
returns-in-Done g c = (visited g.P.Port.server_of
    (talk_of g.D.Connection.Wire.written g.D.Connection.Wire.reading g.D.Connection.Wire.faults) c.args.target.now c.args.request.now
    (talk_of g.C.Wire.written g.C.Wire.reading g.C.Wire.faults c.args.client.now) (talk_of g.C.Wire.written g.C.Wire.reading g.C.Wire.faults c.leave_queue-sent.new.client)
    (records g.P.Port.entries g.P.Port.refusals g.D.Dialer.dials g.D.Dialer.talks g.D.Dialer.failures c.args.port.now (g.K.Clock.told c.args.clock.now) c.args.dialer.now)
    (records g.P.Port.entries g.P.Port.refusals g.D.Dialer.dials g.D.Dialer.talks g.D.Dialer.failures c.leave_queue-sent.new.port (g.K.Clock.told c.leave_queue-sent.new.clock) c.leave_queue-sent.new.dialer)
    (g.K.Clock.pauses c.args.clock.now) (g.K.Clock.pauses c.leave_queue-sent.new.clock) c.in-Done.answer
    (subst (λ step. Passes g.P.Port.server_of
    (talk_of g.D.Connection.Wire.written g.D.Connection.Wire.reading g.D.Connection.Wire.faults) c.args.target.now c.args.request.now nothing (talk_of g.C.Wire.written g.C.Wire.reading g.C.Wire.faults c.args.client.now) (talk_of g.C.Wire.written g.C.Wire.reading g.C.Wire.faults c.leave_queue-sent.new.client)
    (records g.P.Port.entries g.P.Port.refusals g.D.Dialer.dials g.D.Dialer.talks g.D.Dialer.failures c.args.port.now (g.K.Clock.told c.args.clock.now) c.args.dialer.now)
    (records g.P.Port.entries g.P.Port.refusals g.D.Dialer.dials g.D.Dialer.talks g.D.Dialer.failures c.leave_queue-sent.new.port (g.K.Clock.told c.leave_queue-sent.new.clock) c.leave_queue-sent.new.dialer)
    (g.K.Clock.pauses c.args.clock.now) (g.K.Clock.pauses c.leave_queue-sent.new.clock) step) c.in-Done.is
    (passes_twice g.P.Port.server_of
    (talk_of g.D.Connection.Wire.written g.D.Connection.Wire.reading g.D.Connection.Wire.faults) c.args.target.now c.args.request.now nothing
    (talk_of g.C.Wire.written g.C.Wire.reading g.C.Wire.faults c.args.client.now) (talk_of g.C.Wire.written g.C.Wire.reading g.C.Wire.faults c.begin_visit-begun.new.client) (talk_of g.C.Wire.written g.C.Wire.reading g.C.Wire.faults c.leave_queue-sent.new.client)
    (records g.P.Port.entries g.P.Port.refusals g.D.Dialer.dials g.D.Dialer.talks g.D.Dialer.failures c.args.port.now (g.K.Clock.told c.args.clock.now) c.args.dialer.now)
    (records g.P.Port.entries g.P.Port.refusals g.D.Dialer.dials g.D.Dialer.talks g.D.Dialer.failures c.begin_visit-begun.new.port (g.K.Clock.told c.begin_visit-begun.new.clock) c.begin_visit-begun.new.dialer)
    (records g.P.Port.entries g.P.Port.refusals g.D.Dialer.dials g.D.Dialer.talks g.D.Dialer.failures c.leave_queue-sent.new.port (g.K.Clock.told c.leave_queue-sent.new.clock) c.leave_queue-sent.new.dialer)
    (g.K.Clock.pauses c.args.clock.now) (g.K.Clock.pauses c.begin_visit-begun.new.clock) (g.K.Clock.pauses c.leave_queue-sent.new.clock)
    c.begin_visit-begun.result c.leave_queue-sent.result
    (passed g.P.Port.server_of
    (talk_of g.D.Connection.Wire.written g.D.Connection.Wire.reading g.D.Connection.Wire.faults) c.args.target.now c.args.request.now nothing
    (talk_of g.C.Wire.written g.C.Wire.reading g.C.Wire.faults c.args.client.now) (talk_of g.C.Wire.written g.C.Wire.reading g.C.Wire.faults c.begin_visit-begun.new.client)
    (records g.P.Port.entries g.P.Port.refusals g.D.Dialer.dials g.D.Dialer.talks g.D.Dialer.failures c.args.port.now (g.K.Clock.told c.args.clock.now) c.args.dialer.now)
    (records g.P.Port.entries g.P.Port.refusals g.D.Dialer.dials g.D.Dialer.talks g.D.Dialer.failures c.begin_visit-begun.new.port (g.K.Clock.told c.begin_visit-begun.new.clock) c.begin_visit-begun.new.dialer)
    (g.K.Clock.pauses c.args.clock.now) (g.K.Clock.pauses c.begin_visit-begun.new.clock) [] c.begin_visit-begun.result c.begin_visit-begun.ensures.steps
    (subst (λ p. Grows (g.K.Clock.pauses c.args.clock.now) p []) (sym c.begin_visit-begun.ensures.pauses) (grows_none (g.K.Clock.pauses c.args.clock.now))))
    (λ more stands. c.leave_queue-sent.ensures.passes more (talk_of g.C.Wire.written g.C.Wire.reading g.C.Wire.faults c.args.client.now) stands))))

pub returns-in-Waits : goal.returns-in-Waits
returns-in-Waits g c = (visited g.P.Port.server_of
    (talk_of g.D.Connection.Wire.written g.D.Connection.Wire.reading g.D.Connection.Wire.faults) c.args.target.now c.args.request.now
    (talk_of g.C.Wire.written g.C.Wire.reading g.C.Wire.faults c.args.client.now) (talk_of g.C.Wire.written g.C.Wire.reading g.C.Wire.faults c.copy.new.client)
    (records g.P.Port.entries g.P.Port.refusals g.D.Dialer.dials g.D.Dialer.talks g.D.Dialer.failures c.args.port.now (g.K.Clock.told c.args.clock.now) c.args.dialer.now)
    (records g.P.Port.entries g.P.Port.refusals g.D.Dialer.dials g.D.Dialer.talks g.D.Dialer.failures c.copy.new.port (g.K.Clock.told c.copy.new.clock) c.copy.new.dialer)
    (g.K.Clock.pauses c.args.clock.now) (g.K.Clock.pauses c.copy.new.clock) c.copy.result
    (passes_twice g.P.Port.server_of
    (talk_of g.D.Connection.Wire.written g.D.Connection.Wire.reading g.D.Connection.Wire.faults) c.args.target.now c.args.request.now nothing
    (talk_of g.C.Wire.written g.C.Wire.reading g.C.Wire.faults c.args.client.now) (talk_of g.C.Wire.written g.C.Wire.reading g.C.Wire.faults c.leave_queue-sent.new.client) (talk_of g.C.Wire.written g.C.Wire.reading g.C.Wire.faults c.copy.new.client)
    (records g.P.Port.entries g.P.Port.refusals g.D.Dialer.dials g.D.Dialer.talks g.D.Dialer.failures c.args.port.now (g.K.Clock.told c.args.clock.now) c.args.dialer.now)
    (records g.P.Port.entries g.P.Port.refusals g.D.Dialer.dials g.D.Dialer.talks g.D.Dialer.failures c.leave_queue-sent.new.port (g.K.Clock.told c.leave_queue-sent.new.clock) c.leave_queue-sent.new.dialer)
    (records g.P.Port.entries g.P.Port.refusals g.D.Dialer.dials g.D.Dialer.talks g.D.Dialer.failures c.copy.new.port (g.K.Clock.told c.copy.new.clock) c.copy.new.dialer)
    (g.K.Clock.pauses c.args.clock.now) (g.K.Clock.pauses c.leave_queue-sent.new.clock) (g.K.Clock.pauses c.copy.new.clock)
    (Waits c.in-Waits.underway) (Done c.copy.result)
    (subst (λ step. Passes g.P.Port.server_of
    (talk_of g.D.Connection.Wire.written g.D.Connection.Wire.reading g.D.Connection.Wire.faults) c.args.target.now c.args.request.now nothing (talk_of g.C.Wire.written g.C.Wire.reading g.C.Wire.faults c.args.client.now) (talk_of g.C.Wire.written g.C.Wire.reading g.C.Wire.faults c.leave_queue-sent.new.client)
    (records g.P.Port.entries g.P.Port.refusals g.D.Dialer.dials g.D.Dialer.talks g.D.Dialer.failures c.args.port.now (g.K.Clock.told c.args.clock.now) c.args.dialer.now)
    (records g.P.Port.entries g.P.Port.refusals g.D.Dialer.dials g.D.Dialer.talks g.D.Dialer.failures c.leave_queue-sent.new.port (g.K.Clock.told c.leave_queue-sent.new.clock) c.leave_queue-sent.new.dialer)
    (g.K.Clock.pauses c.args.clock.now) (g.K.Clock.pauses c.leave_queue-sent.new.clock) step) c.in-Waits.is
    (passes_twice g.P.Port.server_of
    (talk_of g.D.Connection.Wire.written g.D.Connection.Wire.reading g.D.Connection.Wire.faults) c.args.target.now c.args.request.now nothing
    (talk_of g.C.Wire.written g.C.Wire.reading g.C.Wire.faults c.args.client.now) (talk_of g.C.Wire.written g.C.Wire.reading g.C.Wire.faults c.begin_visit-begun.new.client) (talk_of g.C.Wire.written g.C.Wire.reading g.C.Wire.faults c.leave_queue-sent.new.client)
    (records g.P.Port.entries g.P.Port.refusals g.D.Dialer.dials g.D.Dialer.talks g.D.Dialer.failures c.args.port.now (g.K.Clock.told c.args.clock.now) c.args.dialer.now)
    (records g.P.Port.entries g.P.Port.refusals g.D.Dialer.dials g.D.Dialer.talks g.D.Dialer.failures c.begin_visit-begun.new.port (g.K.Clock.told c.begin_visit-begun.new.clock) c.begin_visit-begun.new.dialer)
    (records g.P.Port.entries g.P.Port.refusals g.D.Dialer.dials g.D.Dialer.talks g.D.Dialer.failures c.leave_queue-sent.new.port (g.K.Clock.told c.leave_queue-sent.new.clock) c.leave_queue-sent.new.dialer)
    (g.K.Clock.pauses c.args.clock.now) (g.K.Clock.pauses c.begin_visit-begun.new.clock) (g.K.Clock.pauses c.leave_queue-sent.new.clock)
    c.begin_visit-begun.result c.leave_queue-sent.result
    (passed g.P.Port.server_of
    (talk_of g.D.Connection.Wire.written g.D.Connection.Wire.reading g.D.Connection.Wire.faults) c.args.target.now c.args.request.now nothing
    (talk_of g.C.Wire.written g.C.Wire.reading g.C.Wire.faults c.args.client.now) (talk_of g.C.Wire.written g.C.Wire.reading g.C.Wire.faults c.begin_visit-begun.new.client)
    (records g.P.Port.entries g.P.Port.refusals g.D.Dialer.dials g.D.Dialer.talks g.D.Dialer.failures c.args.port.now (g.K.Clock.told c.args.clock.now) c.args.dialer.now)
    (records g.P.Port.entries g.P.Port.refusals g.D.Dialer.dials g.D.Dialer.talks g.D.Dialer.failures c.begin_visit-begun.new.port (g.K.Clock.told c.begin_visit-begun.new.clock) c.begin_visit-begun.new.dialer)
    (g.K.Clock.pauses c.args.clock.now) (g.K.Clock.pauses c.begin_visit-begun.new.clock) [] c.begin_visit-begun.result c.begin_visit-begun.ensures.steps
    (subst (λ p. Grows (g.K.Clock.pauses c.args.clock.now) p []) (sym c.begin_visit-begun.ensures.pauses) (grows_none (g.K.Clock.pauses c.args.clock.now))))
    (λ more stands. c.leave_queue-sent.ensures.passes more (talk_of g.C.Wire.written g.C.Wire.reading g.C.Wire.faults c.args.client.now) stands)))
    (λ more stands. c.copy.ensures more (talk_of g.C.Wire.written g.C.Wire.reading g.C.Wire.faults c.args.client.now) stands)))

pub copy-requires-clause-left : goal.copy-requires-clause-left
copy-requires-clause-left g c = subst (λ step. HasLeftQueue step) c.in-Waits.is c.leave_queue-sent.ensures.left
