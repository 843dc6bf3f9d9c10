use Rattle.std.proofs.Common.{◌≡◌, Ok, Err, ap, subst, ◌∙◌}
use Rattle.http_relay_dial.specs.Dials.{talk_of}
use Rattle.http_relay_queue.specs.declared.asking.Asking.TheVariants.{Full, Ended}
use Rattle.http_relay_talk.specs.Openings.{HasAsked}
use Rattle.http_relay_talk.specs.Shares.{records}
use Rattle.http_relay_talk.specs.declared.fault.VisitFault.TheVariants as visit
use Rattle.http_relay_talk.specs.declared.underway.Step.TheVariants.{Waits, Done}
use Rattle.http_relay_talk.specs.declared.underway.Underway.TheVariants.{Queueing}
use Rattle.http_relay_talk.proofs.Passing.{never_queueing}
use Rattle.http_relay_talk.proofs.Visits.{stays, waits, refused_visit, not_serving_visit, over_visit}
use Rattle.http_relay_talk.proofs.opening.after_asking.Goals as goal

pub returns-in-Err-clause-steps : goal.returns-in-Err-clause-steps
returns-in-Err-clause-steps g c own told h =
    let target = c.args.target.now in
    let client = talk_of g.C.Wire.written g.C.Wire.reading g.C.Wire.faults c.args.client.now in
    let at = records g.P.Port.entries g.P.Port.refusals g.D.Dialer.dials g.D.Dialer.talks g.D.Dialer.failures c.args.port.now told c.args.dialer.now in
    let asked = subst (HasAsked g.P.Port.server_of target own) c.in-Err.is h in
    stays g.P.Port.server_of (talk_of g.D.Connection.Wire.written g.D.Connection.Wire.reading g.D.Connection.Wire.faults) target c.args.request.now own client client at
    (Done (Err (visit.Refused c.in-Err.refused)))
    (refused_visit g.P.Port.server_of target c.args.request.now own client c.in-Err.refused asked)

pub returns-in-Ok-Full-clause-steps : goal.returns-in-Ok-Full-clause-steps
returns-in-Ok-Full-clause-steps g c own told h =
    let target = c.args.target.now in
    let client = talk_of g.C.Wire.written g.C.Wire.reading g.C.Wire.faults c.args.client.now in
    let at = records g.P.Port.entries g.P.Port.refusals g.D.Dialer.dials g.D.Dialer.talks g.D.Dialer.failures c.args.port.now told c.args.dialer.now in
    let asked = subst (HasAsked g.P.Port.server_of target own) (c.in-Ok-Full.is ∙ ap (λ a. Ok a) c.in-Ok-Full.field-0-is) h in
    stays g.P.Port.server_of (talk_of g.D.Connection.Wire.written g.D.Connection.Wire.reading g.D.Connection.Wire.faults) target c.args.request.now own client client at
    (Waits (Queueing c.in-Ok-Full.queueing))
    (waits g.P.Port.server_of target own client c.in-Ok-Full.queueing asked)

pub returns-in-NotServing-clause-steps : goal.returns-in-NotServing-clause-steps
returns-in-NotServing-clause-steps g c own told h =
    let target = c.args.target.now in
    let client = talk_of g.C.Wire.written g.C.Wire.reading g.C.Wire.faults c.args.client.now in
    let at = records g.P.Port.entries g.P.Port.refusals g.D.Dialer.dials g.D.Dialer.talks g.D.Dialer.failures c.args.port.now told c.args.dialer.now in
    let asked = subst (HasAsked g.P.Port.server_of target own)
    (c.in-Ok-Ended.is ∙ ap (λ a. Ok a) (c.in-Ok-Ended.field-0-is ∙ ap (λ w. Ended w) c.in-NotServing.is)) h in
    stays g.P.Port.server_of (talk_of g.D.Connection.Wire.written g.D.Connection.Wire.reading g.D.Connection.Wire.faults) target c.args.request.now own client client at
    (Done (Err visit.NotServing))
    (not_serving_visit g.P.Port.server_of target c.args.request.now own client asked)

pub returns-in-Over-clause-steps : goal.returns-in-Over-clause-steps
returns-in-Over-clause-steps g c own told h =
    let target = c.args.target.now in
    let client = talk_of g.C.Wire.written g.C.Wire.reading g.C.Wire.faults c.args.client.now in
    let at = records g.P.Port.entries g.P.Port.refusals g.D.Dialer.dials g.D.Dialer.talks g.D.Dialer.failures c.args.port.now told c.args.dialer.now in
    let asked = subst (HasAsked g.P.Port.server_of target own)
    (c.in-Ok-Ended.is ∙ ap (λ a. Ok a) (c.in-Ok-Ended.field-0-is ∙ ap (λ w. Ended w) c.in-Over.is)) h in
    stays g.P.Port.server_of (talk_of g.D.Connection.Wire.written g.D.Connection.Wire.reading g.D.Connection.Wire.faults) target c.args.request.now own client client at
    (Done (Err visit.QueueOver))
    (over_visit g.P.Port.server_of target c.args.request.now own client asked)

pub returns-in-Opened-clause-steps : goal.returns-in-Opened-clause-steps
returns-in-Opened-clause-steps g c own told h =
    c.send.ensures.steps own told (subst (HasAsked g.P.Port.server_of c.args.target.now own)
    (c.in-Ok-Ended.is ∙ ap (λ a. Ok a) (c.in-Ok-Ended.field-0-is ∙ ap (λ w. Ended w) c.in-Opened.is)) h)

pub returns-in-Ok-Full-clause-queueing : goal.returns-in-Ok-Full-clause-queueing
returns-in-Ok-Full-clause-queueing g c = c.in-Ok-Full.is ∙ ap (λ a. Ok a) c.in-Ok-Full.field-0-is

pub returns-in-Opened-clause-queueing : goal.returns-in-Opened-clause-queueing
returns-in-Opened-clause-queueing g c = never_queueing c.send.result (λ queueing. c.args.asking ≡ Ok (Full queueing)) c.send.ensures.queueing
