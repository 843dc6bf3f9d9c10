use Rattle.std.proofs.Common.{◌≡◌, ◌+◌, ◌≤◌, ◌<◌, true, length, arith, sym, ◌∙◌}
use Rattle.std.specs.Option.{ForSome}
use Rattle.small_farms.specs.Drafts.{MayStand, comes_next}
use Rattle.small_farms.proofs.Drafts.{row_more}
use Rattle.small_farms.proofs.draft.Draft.add_row.Goals as goal

pub invariant_of-self-2 : goal.invariant_of-self-2
invariant_of-self-2 c =
    let own = c.self.inside in
    let row = c.args.row in
    let some : 1 ≤ row.count = omega arith in
    let fits : own.pins + row.count ≤ 16777216 = omega arith in
    let long : c.len.result ≡ length own.servers.items = omega arith in
    let again : c.len-2.result ≡ length own.servers.items = omega arith in
    let kind : MayStand (length own.servers.items) own.usable row.kind = rw long at (c.may_stand.ensures c.if-not-may_stand.false) in
    let place : ForSome row.new_place (λ server. server < length own.servers.items) = rw again at (c.is_below.ensures c.if-not-is_below.false) in
    let next : comes_next own.rows.items row ≡ true = rw c.deref.ensures.value at (sym c.comes_next.ensures ∙ c.if-not-comes_next.false) in
    rw c.in_ok-push.ensures.items (row_more own.servers.items own.rows.items own.pins own.usable row c.self.invariant some fits kind place next)
