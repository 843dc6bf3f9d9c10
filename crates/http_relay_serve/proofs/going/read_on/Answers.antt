use Rattle.std.proofs.Common.{[], None, subst, ap, ◌∙◌}
use Rattle.http_relay_dial.specs.Dials.{talk_of}
use Rattle.http_relay_talk.specs.Visits as visit
use Rattle.http_relay_talk.specs.declared.underway.Step.TheVariants as visit_step
use Rattle.http_relay_talk.specs.declared.underway.Underway.TheVariants as visit_stage
use Rattle.http_relay_serve.specs.Serves.{port_seen, clock_seen, dialer_seen}
use Rattle.http_relay_serve.specs.Steps.{recorded}
use Rattle.http_relay_serve.proofs.Services.{visit_over, waits_for_server}
use Rattle.http_relay_serve.proofs.going.read_on.Goals as goal

pub returns-in-Waits-Copying-clause-steps : goal.returns-in-Waits-Copying-clause-steps
returns-in-Waits-Copying-clause-steps g c target request own headed h =
    let clock = clock_seen g.K.Clock.told g.K.Clock.pauses c.args.worker.now.clock in
    let dialer = dialer_seen g.D.Dialer.dials g.D.Dialer.talks g.D.Dialer.failures in
    let wire = talk_of g.D.Connection.Wire.written g.D.Connection.Wire.reading g.D.Connection.Wire.faults in
    let now = talk_of g.C.Wire.written g.C.Wire.reading g.C.Wire.faults c.copy_on.new.client in
    let old = port_seen g.P.Port.entries g.P.Port.refusals c.args.port.now in
    let new = port_seen g.P.Port.entries g.P.Port.refusals c.copy_on.new.port in
    waits_for_server g.P.Port.server_of wire target request own headed now old new clock clock (dialer c.args.worker.now.dialer) (dialer c.copy_on.new.dialer) []
    c.in-Waits-Copying.held
    (subst (λ step. visit.Steps g.P.Port.server_of wire target request own headed now (recorded old clock (dialer c.args.worker.now.dialer))
    (recorded new clock (dialer c.copy_on.new.dialer)) [] step) (c.in-Waits-Copying.is ∙ ap (λ u. visit_step.Waits u) c.in-Waits-Copying.field-0-is)
    (c.copy_on.ensures.steps target request own headed (g.K.Clock.told c.args.worker.now.clock) h.1))

pub returns-in-Done-clause-steps : goal.returns-in-Done-clause-steps
returns-in-Done-clause-steps g c target request own headed h =
    let clock = clock_seen g.K.Clock.told g.K.Clock.pauses c.args.worker.now.clock in
    let dialer = dialer_seen g.D.Dialer.dials g.D.Dialer.talks g.D.Dialer.failures in
    let wire = talk_of g.D.Connection.Wire.written g.D.Connection.Wire.reading g.D.Connection.Wire.faults in
    let now = talk_of g.C.Wire.written g.C.Wire.reading g.C.Wire.faults c.copy_on.new.client in
    let old = port_seen g.P.Port.entries g.P.Port.refusals c.args.port.now in
    let new = port_seen g.P.Port.entries g.P.Port.refusals c.copy_on.new.port in
    visit_over g.P.Port.server_of wire target request own headed now old new clock clock (dialer c.args.worker.now.dialer) (dialer c.copy_on.new.dialer) []
    c.in-Done.answer
    (subst (λ step. visit.Steps g.P.Port.server_of wire target request own headed now (recorded old clock (dialer c.args.worker.now.dialer))
    (recorded new clock (dialer c.copy_on.new.dialer)) [] step) c.in-Done.is
    (c.copy_on.ensures.steps target request own headed (g.K.Clock.told c.args.worker.now.clock) h.1))

pub unreachable-requires : goal.unreachable-requires
unreachable-requires g c =
    subst (λ step. visit.Nears None g.D.Connection.Wire.reading (visit_stage.Copying c.args.held) step)
    (c.in-Waits-Queueing.is ∙ ap (λ u. visit_step.Waits u) c.in-Waits-Queueing.field-0-is) (c.copy_on.ensures.nears None)
