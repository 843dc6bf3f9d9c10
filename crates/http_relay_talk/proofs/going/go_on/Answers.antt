use Rattle.std.proofs.Common.{◌≡◌, ◌++◌, ◌∷◌, [], List, ℕ, append-nil, refl, sym, subst, ap, ◌∙◌}
use Rattle.http_relay_dial.specs.Dials.{talk_of}
use Rattle.http_relay_talk.specs.Shares.{records, joined, refusals_of}
use Rattle.http_relay_talk.specs.Visits.{IsUnderway, Nears, Stands, Steps, due}
use Rattle.http_relay_talk.proofs.Passing.{asks_nearer}
use Rattle.http_relay_talk.proofs.Shares.{adds_twice, joined_thrice}
use Rattle.http_relay_talk.proofs.Visits.{asked_share, asked_adds}
use Rattle.http_relay_talk.proofs.going.go_on.Goals as goal

pub returns-in-Queueing-clause-steps : goal.returns-in-Queueing-clause-steps
returns-in-Queueing-clause-steps g c own before h =
    let target = c.args.target.now in
    let request = c.args.request.now in
    let at = records g.P.Port.entries g.P.Port.refusals g.D.Dialer.dials g.D.Dialer.talks g.D.Dialer.failures in
    let told = g.K.Clock.told in
    let seen = talk_of g.D.Connection.Wire.written g.D.Connection.Wire.reading g.D.Connection.Wire.faults in
    let client = talk_of g.C.Wire.written g.C.Wire.reading g.C.Wire.faults c.args.client.now in
    let now = talk_of g.C.Wire.written g.C.Wire.reading g.C.Wire.faults c.after_asking.new.client in
    let asking = c.ask_again-asking.result in
    let old = at c.args.port.now (told c.args.clock.now) c.args.dialer.now in
    let mid = at c.ask_again-asking.new.port (told c.ask_again-asking.new.clock) c.args.dialer.now in
    let new = at c.after_asking.new.port (told c.ask_again-asking.new.clock) c.after_asking.new.dialer in
    let q = subst (IsUnderway g.P.Port.server_of seen target request own before client) c.in-Queueing.is h in
    let x = c.ask_again-asking.ensures.asks own.entries own.told own.pauses q.waits in
    let first = asked_share asking x.0 x.1 (50 ∷ []) in
    let y = c.after_asking.ensures.steps (joined own first) (told c.ask_again-asking.new.clock) (record {
      asks = x.4;
      slot = c.ask_again-asking.ensures.slot;
      refused = ap (λ rs. rs ++ refusals_of asking) q.none_refused;
      none_dialled = append-nil own.dials ∙ q.none_dialled;
      none_given_back = append-nil own.talks ∙ q.none_given_back;
      none_failed = append-nil own.failures ∙ q.none_failed;
    }) in
    let stands = subst (λ from. Stands g.P.Port.server_of seen target request (joined (joined own first) y.0) from now c.after_asking.result) q.unseen y.3 in (
      joined first y.0,
      adds_twice first y.0 old mid new (asked_adds asking x.0 x.1 (50 ∷ []) old mid x.2 c.ask_again-asking.ensures.refusals x.3 refl refl refl) y.1,
      subst (λ u. (50 ∷ []) ++ y.0.pauses ≡ due u) (sym c.in-Queueing.is) (ap (λ (ps : List ℕ). 50 ∷ ps) y.2),
      subst (λ all. Stands g.P.Port.server_of seen target request all before now c.after_asking.result) (joined_thrice own first y.0) stands,
    )

pub returns-in-Queueing-clause-nears : goal.returns-in-Queueing-clause-nears
returns-in-Queueing-clause-nears g c =
    let target = c.args.target.now in
    subst (λ u. Nears target.queue g.D.Connection.Wire.reading u c.after_asking.result) (sym c.in-Queueing.is)
    (asks_nearer target.queue g.D.Connection.Wire.reading c.in-Queueing.queueing c.ask_again-asking.result c.after_asking.result
    c.after_asking.ensures.queueing c.ask_again-asking.ensures.left)

pub returns-in-Copying-clause-steps : goal.returns-in-Copying-clause-steps
returns-in-Copying-clause-steps g c own before h =
    let target = c.args.target.now in
    let request = c.args.request.now in
    let at = records g.P.Port.entries g.P.Port.refusals g.D.Dialer.dials g.D.Dialer.talks g.D.Dialer.failures in
    let told = g.K.Clock.told c.args.clock.now in
    let seen = talk_of g.D.Connection.Wire.written g.D.Connection.Wire.reading g.D.Connection.Wire.faults in
    let client = talk_of g.C.Wire.written g.C.Wire.reading g.C.Wire.faults c.args.client.now in
    let now = talk_of g.C.Wire.written g.C.Wire.reading g.C.Wire.faults c.copy_on.new.client in
    let q = subst (IsUnderway g.P.Port.server_of seen target request own before client) c.in-Copying.is h in
    subst (λ u. Steps g.P.Port.server_of seen target request own before now (at c.args.port.now told c.args.dialer.now)
    (at c.copy_on.new.port told c.copy_on.new.dialer) (due u) c.copy_on.result) (sym c.in-Copying.is)
    (c.copy_on.ensures.steps target request own before told q)

pub returns-in-Copying-clause-nears : goal.returns-in-Copying-clause-nears
returns-in-Copying-clause-nears g c =
    let target = c.args.target.now in
    subst (λ u. Nears target.queue g.D.Connection.Wire.reading u c.copy_on.result) (sym c.in-Copying.is) (c.copy_on.ensures.nears target.queue)
