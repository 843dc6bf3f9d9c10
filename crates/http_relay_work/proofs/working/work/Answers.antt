use Rattle.std.proofs.Common.{◌≡◌, length, arith}
use Rattle.std.proofs.lemmas.List.{with_items_is}
use Rattle.http_relay_serve.specs.Serves.{port_seen}
use Rattle.http_relay_work.proofs.Turns.{one_more}
use Rattle.http_relay_work.proofs.working.work.Goals as goal

pub loop-preserved : goal.loop-preserved
loop-preserved g c =
    let same : length c.serve_arrival-served.new.ports ≡ c.loop.ports.len = omega (arith, c.serve_arrival-served.auto.ports, c.deref_mut.ensures.len) in
    let back = with_items_is c.loop.ports c.serve_arrival-served.new.ports same in
    let more = one_more (port_seen g.P.Port.entries g.P.Port.refusals) g.P.Port.server_of c.args.relay.config.now c.args.ports.items
    c.deref_mut.result.now c.serve_arrival-served.new.ports _ _ _ (λ served. served.outcome) c.serve_arrival-served.result
    (rw c.deref_mut.ensures.value c.loop.invariant.3) c.serve_arrival-served.ensures.served c.serve_arrival-served.ensures.unserved in
    rw back (tt, tt, omega (arith, same, c.loop.invariant.2, c.loop.ports.ok.0), more)
