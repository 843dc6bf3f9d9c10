use Rattle.std.proofs.Common.{◌≡◌, true, false, not, sym, ◌∙◌, arith}
use Rattle.std.proofs.lemmas.Bool.{false≢true, not-true, not-false}
use Rattle.cert_check.specs.Verdict.{same_server}
use Rattle.cert_check.proofs.Steps.{same_there, same_more}
use Rattle.cert_check.proofs.Decided.{Decides-same_server}
use Rattle.cert_check.proofs.own_sheet.are_same_servers.Goals as goal

pub returns-then-ne : goal.returns-then-ne
returns-then-ne c =
    let i = c.loop-i.i in
    let p = c.index-priced-i.result in
    let s = c.index-servers-i.result in
    let tested : c.ne.result ≡ not (same_server p.server s) = rw (← c.index-priced-i.is) at c.ne.ensures in
    let differ : same_server p.server s ≡ false = not-true (same_server p.server s) (sym tested ∙ c.if-ne.true) in (
      λ no. absurd cc,
      λ same.
          let here = same_there c.args.priced.now c.args.servers.now i p s (omega arith) (omega arith) c.index-priced-i.is c.index-servers-i.is same in
          absurd (false≢true (sym differ ∙ (Decides-same_server p.server s).1 here)),
    )

pub loop-i-preserved : goal.loop-i-preserved
loop-i-preserved c =
    let i = c.loop-i.i in
    let p = c.index-priced-i.result in
    let s = c.index-servers-i.result in
    let tested : c.ne.result ≡ not (same_server p.server s) = rw (← c.index-priced-i.is) at c.ne.ensures in
    let same : same_server p.server s ≡ true = not-false (same_server p.server s) (sym tested ∙ c.if-ne.false) in
    same_more c.args.priced.now c.args.servers.now i p s (omega arith) (omega arith) c.index-priced-i.is c.index-servers-i.is
    ((Decides-same_server p.server s).0 same) c.loop-i.invariant
