use Rattle.std.proofs.Common.{[], refl}
use Rattle.http_relay_talk.specs.Shares.{records, joined}
use Rattle.http_relay_talk.proofs.Shares.{adds_twice}
use Rattle.http_relay_talk.proofs.Visits.{asked_share, asked_adds}
use Rattle.http_relay_talk.proofs.beginning.begin_visit.Goals as goal

pub returns-clause-steps : goal.returns-clause-steps
returns-clause-steps g c =
    let at = records g.P.Port.entries g.P.Port.refusals g.D.Dialer.dials g.D.Dialer.talks g.D.Dialer.failures in
    let told = g.K.Clock.told in
    let asking = c.ask_first-asking.result in
    let old = at c.args.port.now (told c.args.clock.now) c.args.dialer.now in
    let mid = at c.ask_first-asking.new.port (told c.ask_first-asking.new.clock) c.args.dialer.now in
    let new = at c.after_asking.new.port (told c.ask_first-asking.new.clock) c.after_asking.new.dialer in
    let x = c.ask_first-asking.ensures.asks in
    let first = asked_share asking x.0 x.1 [] in
    let y = c.after_asking.ensures.steps first (told c.ask_first-asking.new.clock) (record {
      asks = x.4;
      slot = c.ask_first-asking.ensures.slot;
      refused = refl;
      none_dialled = refl;
      none_given_back = refl;
      none_failed = refl;
    }) in (
      joined first y.0,
      adds_twice first y.0 old mid new (asked_adds asking x.0 x.1 [] old mid x.2 c.ask_first-asking.ensures.refusals x.3 refl refl refl) y.1,
      y.2,
      y.3,
    )
