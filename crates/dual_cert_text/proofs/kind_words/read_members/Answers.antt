use Rattle.std.proofs.Common.{arith, sym, ◌∙◌}
use Rattle.dual_cert_text.proofs.RowTexts.{usable_found}
use Rattle.dual_cert_text.proofs.SetWords.{with_members_start, with_members_end, with_members_more, with_members_none}
use Rattle.dual_cert_text.proofs.kind_words.read_members.Goals as goal

pub loop-name-init : goal.loop-name-init
loop-name-init c = (rw c.empty-found.ensures (with_members_start c.args.servers.now c.args.names), omega arith)

pub returns-in_err-server : goal.returns-in_err-server
returns-in_err-server c =
    let none = with_members_none c.args.servers.now c.loop-name.from c.loop-name.found c.in-Some.name.now c.next_part.new.self (sym c.in_err-server.ensures) in
    let now = rw c.in-Some.ensures.first at c.loop-name.invariant.0 in
    c.from_residual.ensures ∙ sym none ∙ now

pub loop-name-preserved : goal.loop-name-preserved
loop-name-preserved c =
    let more = with_members_more c.args.servers.now c.loop-name.from _ c.loop-name.found c.with-found.result c.in-Some.name.now c.next_part.new.self (sym c.in_ok-server.ensures) c.with-found.ensures.rising c.with-found.ensures.servers in
    let now = rw c.in-Some.ensures.first at c.loop-name.invariant.0 in
    (rw c.index-from.ensures.exact (sym more ∙ now), rw c.index-from.ensures.exact (let at = (usable_found _ _ _ (sym c.in_ok-server.ensures)).0 in omega (arith, at)))

pub returns : goal.returns
returns c =
    let end = with_members_end c.args.servers.now c.loop-name.from c.loop-name.found in
    let now = rw c.in_default.ensures.none.0 at c.loop-name.invariant.0 in
    sym end ∙ now
