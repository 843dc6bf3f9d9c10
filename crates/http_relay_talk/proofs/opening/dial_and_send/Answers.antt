use Rattle.std.proofs.Common.{◌∷◌, [], Ok, subst, sym, ◌∙◌}
use Rattle.lb_desk_ports.specs.Calls.{Grows}
use Rattle.http_relay_dial.specs.Dials.{talk_of}
use Rattle.http_relay_talk.proofs.Before.{untouched, fresh_before, began, reading_kept}
use Rattle.http_relay_talk.proofs.Lessons.{learns_nothing, reads_nothing}
use Rattle.http_relay_talk.specs.Lessons.{Learns, untaught}
use Rattle.http_relay_talk.proofs.opening.dial_and_send.Goals as goal

pub returns-in-Ok-send_request : goal.returns-in-Ok-send_request
returns-in-Ok-send_request g c =
    let request = c.args.request.now in
    let opened = talk_of g.D.Connection.Wire.written g.D.Connection.Wire.reading g.D.Connection.Wire.faults c.in-Ok.dialled.0 in
    let told = c.in-Ok.ensures in
    let first = untouched opened in (
      first,
      fresh_before c.opening.result.now c.in-Ok.dialled.1 opened told.taken,
      told.dials,
      c.in-Ok-send_request.ensures first (began request c.opening.result.now c.in-Ok.dialled.1 opened c.opening.ensures told.taken),
      told.talks,
      told.failures,
    )

pub returns-in-Err-send_request : goal.returns-in-Err-send_request
returns-in-Err-send_request g c =
    let request = c.args.request.now in
    let target = c.args.target.now in
    let server = talk_of g.D.Connection.Wire.written g.D.Connection.Wire.reading g.D.Connection.Wire.faults in
    let opened = server c.in-Ok.dialled.0 in
    let last = server c.send_request.new.server in
    let told = c.in-Ok.ensures in
    let first = untouched opened in
    let client = talk_of g.C.Wire.written g.C.Wire.reading g.C.Wire.faults in
    let sent = c.in-Err-send_request.ensures first (began request c.opening.result.now c.in-Ok.dialled.1 opened c.opening.ensures told.taken) in (
      record {
        first = first;
        last = last;
        fresh = fresh_before c.opening.result.now c.in-Ok.dialled.1 opened told.taken;
        dial = subst (λ dials. Grows (g.D.Dialer.dials c.args.dialer.now) dials
            (record { endpoint = target.endpoint; limits = target.limits; answer = Ok first.reading } ∷ [])) (sym c.hang_up.ensures.dials) told.dials;
        learned = reads_nothing first.reading last.reading (λ text. Learns target.lesson target.server text untaught)
            (reading_kept request (client c.args.client.now) (client c.send_request.new.client) first last c.in-Err-send_request.fault sent)
            (learns_nothing target.lesson target.server []);
        exchanged = sent;
        hung_up = subst (λ talks. Grows talks (g.D.Dialer.talks c.hang_up.new.self) (last ∷ [])) told.talks c.hang_up.ensures.talks;
      },
      c.hang_up.ensures.failures ∙ told.failures,
    )
