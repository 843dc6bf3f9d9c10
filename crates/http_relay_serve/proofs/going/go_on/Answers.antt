use Rattle.std.proofs.Common.{get_or, refl, subst, ap, ◌∙◌}
use Rattle.http_relay_dial.specs.Dials.{talk_of}
use Rattle.http_relay_talk.specs.Visits.{due}
use Rattle.http_relay_serve.specs.Outcomes.{outcome_of, Ends}
use Rattle.http_relay_serve.specs.Parts.{GoesOnAt}
use Rattle.http_relay_serve.specs.Serves.{port_seen, clock_seen, dialer_seen}
use Rattle.http_relay_serve.specs.Steps.{visit_of}
use Rattle.http_relay_serve.specs.declared.outcome.Outcome.{Outcome}
use Rattle.http_relay_serve.proofs.Places.{get_at}
use Rattle.http_relay_serve.proofs.Services.{comes_to_end, goes_on}
use Rattle.http_relay_serve.proofs.going.go_on.Goals as goal

pub returns-in-Waits-clause-steps : goal.returns-in-Waits-clause-steps
returns-in-Waits-clause-steps g c target request own headed h =
    let clock = clock_seen g.K.Clock.told g.K.Clock.pauses in
    let dialer = dialer_seen g.D.Dialer.dials g.D.Dialer.talks g.D.Dialer.failures in
    let wire = talk_of g.D.Connection.Wire.written g.D.Connection.Wire.reading g.D.Connection.Wire.faults in
    let talk = talk_of g.C.Wire.written g.C.Wire.reading g.C.Wire.faults in
    let port = port_seen g.P.Port.entries g.P.Port.refusals in
    let underway = c.args.underway in
    let old = get_or c.args.ports.now underway.backend c.index-ports-backend.result in
    let new = c.go_on_at-gone.new.port in
    goes_on port g.P.Port.server_of wire talk target request own headed underway c.args.ports.now _ old new
    (clock c.args.worker.now.clock) (clock c.go_on_at-gone.new.worker.clock) (dialer c.args.worker.now.dialer) (dialer c.go_on_at-gone.new.worker.dialer)
    (record underway.client { wire = c.go_on_at-gone.new.client }) c.in-Waits.stage
    (get_at c.args.ports.now underway.backend c.index-ports-backend.result c.requires.backend) refl
    (subst (λ gone. GoesOnAt g.P.Port.server_of wire target request own headed (talk c.go_on_at-gone.new.client) (port old) (port new)
    (clock c.args.worker.now.clock) (clock c.go_on_at-gone.new.worker.clock) (dialer c.args.worker.now.dialer) (dialer c.go_on_at-gone.new.worker.dialer)
    (due (visit_of underway.stage)) gone) c.in-Waits.is (c.go_on_at-gone.ensures.steps target request own headed h))

pub returns-in-Over-clause-steps : goal.returns-in-Over-clause-steps
returns-in-Over-clause-steps g c target request own headed h =
    let clock = clock_seen g.K.Clock.told g.K.Clock.pauses in
    let dialer = dialer_seen g.D.Dialer.dials g.D.Dialer.talks g.D.Dialer.failures in
    let wire = talk_of g.D.Connection.Wire.written g.D.Connection.Wire.reading g.D.Connection.Wire.faults in
    let talk = talk_of g.C.Wire.written g.C.Wire.reading g.C.Wire.faults in
    let port = port_seen g.P.Port.entries g.P.Port.refusals in
    let underway = c.args.underway in
    let old = get_or c.args.ports.now underway.backend c.index-ports-backend.result in
    let new = c.go_on_at-gone.new.port in
    let between = talk c.go_on_at-gone.new.client in
    let after = talk c.end-outcome.new.client in
    comes_to_end port g.P.Port.server_of wire talk target request own headed between underway c.args.ports.now _ old new
    (clock c.args.worker.now.clock) (clock c.go_on_at-gone.new.worker.clock) (dialer c.args.worker.now.dialer) (dialer c.go_on_at-gone.new.worker.dialer)
    (record underway.client { wire = c.end-outcome.new.client }) c.in-Over.answer c.end-outcome.result
    (get_at c.args.ports.now underway.backend c.index-ports-backend.result c.requires.backend) refl
    (subst (λ gone. GoesOnAt g.P.Port.server_of wire target request own headed between (port old) (port new)
    (clock c.args.worker.now.clock) (clock c.go_on_at-gone.new.worker.clock) (dialer c.args.worker.now.dialer) (dialer c.go_on_at-gone.new.worker.dialer)
    (due (visit_of underway.stage)) gone) c.in-Over.is (c.go_on_at-gone.ensures.steps target request own headed h))
    (subst (λ (o : Outcome). Ends o between after c.end-outcome.result) (c.of.ensures ∙ ap outcome_of c.relayed.ensures) c.end-outcome.ensures)
