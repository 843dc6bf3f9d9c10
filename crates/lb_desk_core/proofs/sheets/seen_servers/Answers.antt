use Rattle.std.proofs.Common.{◌≡◌, ◌<◌, ℕ, List, [], ◌∷◌, ◌++◌, length, map, get_or, take, refl, sym, ap, ◌∙◌, arith}
use Rattle.std.specs.List.{zip}
use Rattle.std.proofs.lemmas.List.{length-map, take_more, take_all}
use Rattle.std.proofs.lemmas.Slice.Zip.{length-zip}
use Rattle.pin_set.specs.declared.view.ViewServer.{ViewServer}
use Rattle.server_state.specs.Farm.{capacity_of}
use Rattle.lb_desk_model.specs.Seen.{named_server}
use Rattle.lb_desk_core.proofs.Snapshots.{named_at, view_server_of}
use Rattle.lb_desk_core.proofs.sheets.seen_servers.Goals as goal

pub loop-i-preserved : goal.loop-i-preserved
loop-i-preserved c =
    let names = c.args.names.now in
    let farm = c.args.farm.now in
    let all = map named_server (zip names farm.servers) in
    let i = c.loop-i.i in
    let one = view_server_of c.index-names-i.result c.capacity.result in
    let inside : i < length all = omega (arith, length-map (zip names farm.servers) named_server, length-zip names farm.servers, c.requires.whole) in
    let room : capacity_of farm i ≡ c.capacity.result = ap (capacity_of farm) (sym c.new.ensures) ∙ sym c.capacity.ensures.exact in
    let here : get_or all i one ≡ one =
    named_at names farm i one c.loop-i-test.true c.requires.whole
    ∙ (ap (λ (n : List ℕ). view_server_of n (capacity_of farm i)) (sym c.index-names-i.is) ∙ ap (view_server_of c.index-names-i.result) room) in
    let items : c.push.new.self.items ≡ c.loop-i.seen.items ++ one ∷ [] = c.push.ensures.items ∙ rw c.in_ok-push.was refl in
    items
    ∙ (ap (λ (xs : List ViewServer). xs ++ one ∷ []) c.loop-i.invariant
    ∙ (ap (λ (s : ViewServer). take i all ++ s ∷ []) (sym here) ∙ sym (take_more all i one inside)))

pub returns : goal.returns
returns c =
    let names = c.args.names.now in
    let servers = c.args.farm.now.servers in
    let all = map named_server (zip names servers) in
    c.loop-i.invariant ∙ take_all c.loop-i.i all (omega (arith, length-map (zip names servers) named_server, length-zip names servers, c.requires.whole))
