use Rattle.std.proofs.Common.{◌≡◌, ◌*◌, ◌≤◌, ◌<◌, ◌^◌, arith, sym, refl}
use Rattle.std.proofs.lemmas.Nat.{mul-le}
use Rattle.std.proofs.lemmas.List.Elements.{All-get_or}
use Rattle.dual_cert_plan.specs.declared.server.PricedServer.{PricedServer}
use Rattle.dual_cert_plan.specs.Plans.{servers_of}
use Rattle.cert_check.specs.Verdict.{room, price_at}
use Rattle.cert_check_law.proofs.Sums.{sum_to-none, sum_to_more}
use Rattle.cert_check.proofs.Steps.{price_at-read, room-read}
use Rattle.cert_check.proofs.bound.worth.Goals as goal

pub loop-server-init : goal.loop-server-init
loop-server-init c =
    let servers = c.args.servers.now in
    (sym (sum_to-none (λ s. room (servers_of servers) s * price_at servers s)), omega arith)

pub loop-server-preserved : goal.loop-server-preserved
loop-server-preserved c =
    let servers = c.args.servers.now in
    let i = c.loop-server.server-index in
    let server = c.server-item.result in
    let more = sum_to_more i (λ s. room (servers_of servers) s * price_at servers s) in
    let price = price_at-read servers i server (omega arith) c.server-item.is in
    let capacity = room-read servers i server (omega arith) c.server-item.is in
    let term : room (servers_of servers) i * price_at servers i ≡ c.from.result * c.from-in-loop-server.result =
    rw (price, capacity, ← c.room.ensures, ← c.from.ensures, ← c.from-in-loop-server.ensures) refl in
    let cheap = All-get_or (λ (s : PricedServer). s.price < 2 ^ 40) servers i server (omega arith) c.requires.prices in
    let below = rw (← c.server-item.is) at cheap in
    let small : c.from.result * c.from-in-loop-server.result ≤ 2 ^ 32 * 2 ^ 40 = mul-le c.from.result c.from-in-loop-server.result (2 ^ 32) (2 ^ 40) (omega arith) (omega arith) in
    (omega arith, omega arith)
