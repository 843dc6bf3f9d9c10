use Rattle.std.proofs.Common.{◌≡◌, ◌<◌, [], ◌∷◌, ◌++◌, List, length, get_or, take, refl, sym, ap, ◌∙◌, arith}
use Rattle.std.proofs.lemmas.List.{take_more, take_all}
use Rattle.dual_cert_plan.specs.declared.server.Server.{Server}
use Rattle.dual_cert_plan.specs.declared.server.PricedServer.{PricedServer}
use Rattle.flow_planner_net.specs.States.{at}
use Rattle.flow_planner.specs.Plannings.{priced_server, priced_servers}
use Rattle.flow_planner.proofs.ServerLists.{length-priced, get_or-priced}
use Rattle.flow_planner.proofs.sheet_parts.priced_servers.Goals as goal

pub loop-i-preserved : goal.loop-i-preserved
loop-i-preserved c =
    let price = at c.args.prices.now in
    let servers = c.args.servers.now in
    let all = priced_servers price servers in
    let i = c.loop-i.i in
    let one = c.priced_server.result in
    let long = length-priced price servers in
    let within : i < length all = omega arith in
    let here : get_or all i one ≡ one =
    get_or-priced price servers i one c.index-servers-i.result c.loop-i-test.true
    ∙ (ap (λ (s : Server). priced_server price (i, s)) (sym c.index-servers-i.is) ∙ sym c.priced_server.ensures) in
    let items : c.push.new.self.items ≡ c.loop-i.priced.items ++ one ∷ [] = c.push.ensures.items ∙ rw c.in_ok-push.was refl in
    items
    ∙ (ap (λ (xs : List PricedServer). xs ++ one ∷ []) c.loop-i.invariant
    ∙ (ap (λ (s : PricedServer). take i all ++ s ∷ []) (sym here) ∙ sym (take_more all i one within)))

pub returns : goal.returns
returns c =
    let price = at c.args.prices.now in
    let all = priced_servers price c.args.servers.now in
    c.loop-i.invariant ∙ take_all c.loop-i.i all (omega (arith, length-priced price c.args.servers.now))
