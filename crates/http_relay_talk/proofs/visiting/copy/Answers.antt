use Rattle.std.proofs.Common.{subst}
use Rattle.http_relay_dial.specs.Dials.{talk_of}
use Rattle.http_relay_talk.specs.Openings.{HasLeftQueue, Passes}
use Rattle.http_relay_talk.specs.Shares.{records}
use Rattle.http_relay_talk.specs.declared.underway.Step.TheVariants.{Waits, Done}
use Rattle.http_relay_talk.proofs.Passing.{passes_twice}
use Rattle.http_relay_talk.proofs.visiting.copy.Goals as goal

pub returns-in-Done : goal.returns-in-Done
returns-in-Done g c own before h = subst (λ step. Passes g.P.Port.server_of
    (talk_of g.D.Connection.Wire.written g.D.Connection.Wire.reading g.D.Connection.Wire.faults) c.args.target.now c.args.request.now own before
    (talk_of g.C.Wire.written g.C.Wire.reading g.C.Wire.faults c.copy_through-copied.new.client)
    (records g.P.Port.entries g.P.Port.refusals g.D.Dialer.dials g.D.Dialer.talks g.D.Dialer.failures c.args.port.now (g.K.Clock.told c.args.clock.now) c.args.dialer.now)
    (records g.P.Port.entries g.P.Port.refusals g.D.Dialer.dials g.D.Dialer.talks g.D.Dialer.failures c.copy_through-copied.new.port (g.K.Clock.told c.copy_through-copied.new.clock) c.copy_through-copied.new.dialer)
    (g.K.Clock.pauses c.args.clock.now) (g.K.Clock.pauses c.copy_through-copied.new.clock) step) c.in-Done.is
    (c.copy_through-copied.ensures.passes own before h)

pub returns-in-Waits : goal.returns-in-Waits
returns-in-Waits g c own before h = passes_twice g.P.Port.server_of
    (talk_of g.D.Connection.Wire.written g.D.Connection.Wire.reading g.D.Connection.Wire.faults) c.args.target.now c.args.request.now own before
    (talk_of g.C.Wire.written g.C.Wire.reading g.C.Wire.faults c.copy_through-copied.new.client) (talk_of g.C.Wire.written g.C.Wire.reading g.C.Wire.faults c.copy_rest.new.client)
    (records g.P.Port.entries g.P.Port.refusals g.D.Dialer.dials g.D.Dialer.talks g.D.Dialer.failures c.args.port.now (g.K.Clock.told c.args.clock.now) c.args.dialer.now)
    (records g.P.Port.entries g.P.Port.refusals g.D.Dialer.dials g.D.Dialer.talks g.D.Dialer.failures c.copy_through-copied.new.port (g.K.Clock.told c.copy_through-copied.new.clock) c.copy_through-copied.new.dialer)
    (records g.P.Port.entries g.P.Port.refusals g.D.Dialer.dials g.D.Dialer.talks g.D.Dialer.failures c.copy_rest.new.port (g.K.Clock.told c.copy_rest.new.clock) c.copy_rest.new.dialer)
    (g.K.Clock.pauses c.args.clock.now) (g.K.Clock.pauses c.copy_through-copied.new.clock) (g.K.Clock.pauses c.copy_rest.new.clock)
    (Waits c.in-Waits.underway) (Done c.copy_rest.result)
    (subst (λ step. Passes g.P.Port.server_of
    (talk_of g.D.Connection.Wire.written g.D.Connection.Wire.reading g.D.Connection.Wire.faults) c.args.target.now c.args.request.now own before
    (talk_of g.C.Wire.written g.C.Wire.reading g.C.Wire.faults c.copy_through-copied.new.client)
    (records g.P.Port.entries g.P.Port.refusals g.D.Dialer.dials g.D.Dialer.talks g.D.Dialer.failures c.args.port.now (g.K.Clock.told c.args.clock.now) c.args.dialer.now)
    (records g.P.Port.entries g.P.Port.refusals g.D.Dialer.dials g.D.Dialer.talks g.D.Dialer.failures c.copy_through-copied.new.port (g.K.Clock.told c.copy_through-copied.new.clock) c.copy_through-copied.new.dialer)
    (g.K.Clock.pauses c.args.clock.now) (g.K.Clock.pauses c.copy_through-copied.new.clock) step) c.in-Waits.is
    (c.copy_through-copied.ensures.passes own before h))
    (λ more stands. c.copy_rest.ensures more before stands)

pub copy_rest-requires : goal.copy_rest-requires
copy_rest-requires g c = subst (λ step. HasLeftQueue step) c.in-Waits.is c.copy_through-copied.ensures.left
