use Rattle.std.proofs.Common.{◌≡◌, ◌++◌, [], refl, sym, subst, append-nil}
use Rattle.http_relay_dial.specs.Dials.{talk_of}
use Rattle.http_relay_queue.proofs.Waits.{grows_none}
use Rattle.lb_desk_ports.specs.Ports.{shutting_entries}
use Rattle.http_relay_talk.specs.Shares.{records}
use Rattle.http_relay_talk.proofs.Visits.{dialled, was_sent, gives_back_adds, failed_visit}
use Rattle.http_relay_talk.proofs.opening.send.Goals as goal

pub returns-in-Ok-clause-steps : goal.returns-in-Ok-clause-steps
returns-in-Ok-clause-steps g c own told h =
    let target = c.args.target.now in
    let seen = talk_of g.D.Connection.Wire.written g.D.Connection.Wire.reading g.D.Connection.Wire.faults in
    let client = talk_of g.C.Wire.written g.C.Wire.reading g.C.Wire.faults in
    let x = c.in-Ok.ensures in (
      dialled target x.0,
      record {
        entries = sym (append-nil (g.P.Port.entries c.args.port.now));
        refusals = refl;
        told = grows_none told;
        dials = x.2;
        talks = x.4;
        failures = x.5;
      },
      refl,
      was_sent g.P.Port.server_of target c.args.request.now own (client c.args.client.now) (client c.dial_and_send.new.client) c.args.slot
          (seen c.in-Ok.connection) x.0 c.new.result h x.1 x.3 c.new.ensures,
    )

pub returns-in-Err-clause-steps : goal.returns-in-Err-clause-steps
returns-in-Err-clause-steps g c own told h =
    let target = c.args.target.now in
    let seen = talk_of g.D.Connection.Wire.written g.D.Connection.Wire.reading g.D.Connection.Wire.faults in
    let client = talk_of g.C.Wire.written g.C.Wire.reading g.C.Wire.faults in
    let at = records g.P.Port.entries g.P.Port.refusals g.D.Dialer.dials g.D.Dialer.talks g.D.Dialer.failures in
    let old = at c.args.port.now told c.args.dialer.now in
    let mid = at c.args.port.now told c.dial_and_send.new.dialer in
    let new = at c.shut-shut.new.self told c.dial_and_send.new.dialer in
    let shut = c.shut-shut.result in
    failed_visit g.P.Port.server_of seen target c.args.request.now own (client c.args.client.now) (client c.dial_and_send.new.client) c.args.slot c.in-Err.fault
    shut old mid new h refl refl refl c.in-Err.ensures
    (gives_back_adds target.server shut [] mid new
    (subst (λ n. g.P.Port.entries c.shut-shut.new.self ≡ g.P.Port.entries c.args.port.now ++ shutting_entries n shut) h.slot c.shut-shut.ensures.entries)
    c.shut-shut.ensures.refusals refl refl refl refl)
