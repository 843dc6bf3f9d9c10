use Rattle.std.proofs.Common.{◌≡◌, ◌<◌, [], ◌∷◌, ◌++◌, length, get_or, take, refl, sym, ap, ◌∙◌, arith}
use Rattle.std.proofs.lemmas.List.{take_more, take_all}
use Rattle.pin_set.specs.declared.view.ViewServer.{ViewServer}
use Rattle.dual_cert_plan.specs.declared.server.Server.{Server}
use Rattle.std.proofs.Common.{List}
use Rattle.cert_check_law.specs.Sheets.{listed_server, listed_servers}
use Rattle.pin_groups.proofs.Sheets.{length-listed, get_or-listed}
use Rattle.pin_groups.proofs.listed.listed_servers.Goals as goal

pub loop-i-preserved : goal.loop-i-preserved
loop-i-preserved c =
    let usable = c.args.usable in
    let servers = c.args.servers.now in
    let all = listed_servers usable servers in
    let i = c.loop-i.i in
    let one = c.listed_server.result in
    let long = length-listed usable servers in
    let within : i < length all = omega arith in
    let here : get_or all i one ≡ one =
    get_or-listed usable servers i one c.index-servers-i.result c.loop-i-test.true
    ∙ (ap (λ (s : ViewServer). listed_server usable (i, s)) (sym c.index-servers-i.is) ∙ sym c.listed_server.ensures) in
    let items : c.push.new.self.items ≡ c.loop-i.listed.items ++ one ∷ [] = c.push.ensures.items ∙ rw c.in_ok-push.was refl in
    items
    ∙ (ap (λ (xs : List Server). xs ++ one ∷ []) c.loop-i.invariant
    ∙ (ap (λ (s : Server). take i all ++ s ∷ []) (sym here) ∙ sym (take_more all i one within)))

pub returns : goal.returns
returns c =
    let all = listed_servers c.args.usable c.args.servers.now in
    c.loop-i.invariant ∙ take_all c.loop-i.i all (omega (arith, length-listed c.args.usable c.args.servers.now))
