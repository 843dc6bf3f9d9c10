use Rattle.std.proofs.Common.{◌≡◌, ◌++◌, ◌∷◌, [], refl, sym, subst}
use Rattle.http_relay_dial.specs.Dials.{talk_of}
use Rattle.lb_desk_ports.specs.Ports.{shutting_entries}
use Rattle.http_relay_talk.specs.Shares.{joined, records}
use Rattle.http_relay_talk.specs.Visits.{IsVisit}
use Rattle.http_relay_talk.proofs.Visits.{gives_back, gives_back_adds, finished}
use Rattle.http_relay_talk.proofs.finishing.finish.Goals as goal

pub returns : goal.returns
returns g c target request own client now told h =
    let at = records g.P.Port.entries g.P.Port.refusals g.D.Dialer.dials g.D.Dialer.talks g.D.Dialer.failures in
    let old = at c.args.port.now told c.args.dialer.now in
    let new = at c.shut-shut.new.self told c.hang_up.new.self in
    let last = talk_of g.D.Connection.Wire.written g.D.Connection.Wire.reading g.D.Connection.Wire.faults c.args.connection in
    let shut = c.shut-shut.result in (
      gives_back target.server shut (last ∷ []),
      gives_back_adds target.server shut (last ∷ []) old new
          (subst (λ n. g.P.Port.entries c.shut-shut.new.self ≡ g.P.Port.entries c.args.port.now ++ shutting_entries n shut) h.of c.shut-shut.ensures.entries)
          c.shut-shut.ensures.refusals refl c.hang_up.ensures.dials c.hang_up.ensures.talks c.hang_up.ensures.failures,
      refl,
      subst (λ answer. IsVisit g.P.Port.server_of target request (joined own (gives_back target.server shut (last ∷ []))) client now answer)
          (sym c.visit_answer.ensures) (finished g.P.Port.server_of target request own client now c.args.slot last c.args.answer shut h),
    )
