use Rattle.std.proofs.Common.{ℕ, ◌+◌, ◌≤◌, List, length, Ok, Err, refl, subst}
use Rattle.std.specs.Vec.{vec_len, vec_capacity}
use Rattle.http_relay_serve.specs.Serves.{port_seen, clock_seen}
use Rattle.http_relay_serve.proofs.Stages.{asks_at_moment, made_of_parts}
use Rattle.http_relay_serve.proofs.placing.prepare.Goals as goal

pub returns-in-Ok-clause-prepares : goal.returns-in-Ok-clause-prepares
returns-in-Ok-clause-prepares g c =
    let routes = g.T.Routing.routes c.args.routing.now in
    let port = port_seen g.P.Port.entries g.P.Port.refusals in
    let clock = clock_seen g.K.Clock.told g.K.Clock.pauses in
    let read = c.args.read.now in (
      asks_at_moment routes c.args.backend c.head-head.result read.head (port c.args.port.now) (port c.ask.new.port) (clock c.args.clock.now)
          (clock c.now-moment.new.self) c.in_ok-request.request c.now-moment.result (Ok c.in-Ok.target) c.head-head.ensures c.in_ok-request.ensures.asks
          c.in_ok-request.ensures.moment c.now-moment.ensures.told c.now-moment.ensures.pauses c.in-Ok.ensures,
      made_of_parts routes c.args.backend read c.head-head.result c.forwards_address.result c.in_ok-text.text.items c.reserve.new.self.items read.rest
          c.body_kind-kind.result c.expects_continue-waits.result
          (record { head = c.reserve.new.self.items; kind = c.body_kind-kind.result; behind = read.rest; expects_continue = c.expects_continue-waits.result })
          c.head-head.ensures c.forwards_address.ensures c.in_ok-text.ensures c.reserve.ensures.items refl c.body_kind-kind.ensures
          c.expects_continue-waits.ensures refl,
      subst (λ (behind : List ℕ). vec_len c.reserve.new.self + length behind ≤ vec_capacity c.reserve.new.self) c.rest.ensures c.in_ok-reserve.ensures.ok,
    )

pub returns-clause-prepares : goal.returns-clause-prepares
returns-clause-prepares g c =
    let port = port_seen g.P.Port.entries g.P.Port.refusals in
    let clock = clock_seen g.K.Clock.told g.K.Clock.pauses in
    asks_at_moment (g.T.Routing.routes c.args.routing.now) c.args.backend c.head-head.result c.args.read.now.head (port c.args.port.now) (port c.ask.new.port)
    (clock c.args.clock.now) (clock c.now-moment.new.self) c.in_ok-request.request c.now-moment.result (Err c.in-Err.fault) c.head-head.ensures
    c.in_ok-request.ensures.asks c.in_ok-request.ensures.moment c.now-moment.ensures.told c.now-moment.ensures.pauses c.in-Err.ensures
