use Rattle.std.proofs.Common.{◌≡◌, Some, refl, subst, ◌∙◌}
use Rattle.http_relay_dial.specs.Dials.{talk_of}
use Rattle.http_relay_inflight.proofs.Flights.{comes_to_end, goes_on}
use Rattle.http_relay_inflight.specs.Turns.{worker_seen}
use Rattle.http_relay_serve.specs.Serves.{port_seen, clock_seen, dialer_seen}
use Rattle.keyed_values.specs.Keys.{at}
use Rattle.http_relay_inflight.proofs.turning.turn.Goals as goal

pub returns-in-Waits-clause-steps : goal.returns-in-Waits-clause-steps
returns-in-Waits-clause-steps g c turns keeps =
    let clock = clock_seen g.K.Clock.told g.K.Clock.pauses in
    let dialer = dialer_seen g.D.Dialer.dials g.D.Dialer.talks g.D.Dialer.failures in
    let wire = talk_of g.D.Connection.Wire.written g.D.Connection.Wire.reading g.D.Connection.Wire.faults in
    let talk = talk_of g.C.Wire.written g.C.Wire.reading g.C.Wire.faults in
    let key = c.args.key in
    let underway = c.take-underway.result in
    let later = c.in-Waits.later in
    let kept = record underway { client = later.client; stage = later.stage } in
    let is = c.insert.ensures.key ∙ c.take-underway.ensures.next in
    let updates = c.insert.ensures.updates in
    goes_on (port_seen g.P.Port.entries g.P.Port.refusals) g.P.Port.server_of wire talk g.T.Routing.routes key c.insert.result turns underway later
    kept c.args.requests.now c.insert.new.self
    (worker_seen c.args.ports.now (clock c.args.worker.now.clock) (dialer c.args.worker.now.dialer))
    (worker_seen c.go_on.new.ports (clock c.go_on.new.worker.clock) (dialer c.go_on.new.worker.dialer))
    c.take-underway.ensures.value refl
    (subst (λ k. at c.insert.new.self.kept k ≡ Some kept) is updates.changed)
    (λ other differs. updates.others other (λ e. differs (e ∙ is)) ∙ c.take-underway.ensures.updates.others other differs)
    c.in-Waits.ensures.steps keeps

pub returns-in-Done-clause-steps : goal.returns-in-Done-clause-steps
returns-in-Done-clause-steps g c turns keeps =
    let clock = clock_seen g.K.Clock.told g.K.Clock.pauses in
    let dialer = dialer_seen g.D.Dialer.dials g.D.Dialer.talks g.D.Dialer.failures in
    let wire = talk_of g.D.Connection.Wire.written g.D.Connection.Wire.reading g.D.Connection.Wire.faults in
    let talk = talk_of g.C.Wire.written g.C.Wire.reading g.C.Wire.faults in
    comes_to_end (port_seen g.P.Port.entries g.P.Port.refusals) g.P.Port.server_of wire talk g.T.Routing.routes c.args.key turns c.take-underway.result
    c.in-Done.client c.in-Done.outcome c.args.requests.now c.take-underway.new.self
    (worker_seen c.args.ports.now (clock c.args.worker.now.clock) (dialer c.args.worker.now.dialer))
    (worker_seen c.go_on.new.ports (clock c.go_on.new.worker.clock) (dialer c.go_on.new.worker.dialer))
    c.take-underway.ensures.value c.take-underway.ensures.updates.changed c.take-underway.ensures.updates.others
    c.in-Done.ensures.steps keeps
