use Rattle.std.proofs.Common.{◌≡◌, ◌<◌, [], length, vec_len, arith, sym, ◌∙◌}
use Rattle.small_farms.specs.Drafts.{IsNew, MayCost}
use Rattle.small_farms.proofs.Drafts.{server_more, no_rows}
use Rattle.small_farms.proofs.draft.Draft.add_server.Goals as goal

pub invariant_of-self-2 : goal.invariant_of-self-2
invariant_of-self-2 c =
    let own = c.self.inside in
    let server = c.args.server in
    let few : length own.servers.items < 128 = omega arith in
    let long : vec_len own.rows ≡ length own.rows.items = omega arith in
    let empty = sym c.is_empty.ensures ∙ c.if-not-is_empty.false in
    let none : own.rows.items ≡ [] = no_rows own.rows.items (rw long at empty) in
    let new : IsNew own.servers.items server.name = rw c.deref.ensures.value at (c.is_new.ensures.new c.if-not-is_new.false) in
    let price : MayCost server c.args.price = c.may_cost.ensures c.if-not-may_cost.false in
    let more = server_more own.servers.items own.rows.items own.pins own.usable (record { server = server; price = c.args.price }) c.self.invariant none few
    c.is_new.ensures.named new c.or_usable-self-inside.ensures.capacity price in
    let number : c.len-at.result ≡ length own.servers.items = omega arith in
    rw (c.in_ok-push.ensures.items, c.or_usable-self-inside.ensures.exact, number) more
