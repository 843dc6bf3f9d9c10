use Rattle.std.proofs.Common.{◌≡◌, length, arith, refl, below_more, inl, inr}
use Rattle.std.proofs.lemmas.Bool.{cases_lt}
use Rattle.std.proofs.lemmas.List.{length-map}
use Rattle.dual_cert_plan.specs.declared.server.PricedServer.{PricedServer}
use Rattle.dual_cert_plan.specs.Plans.{servers_of}
use Rattle.cert_check.proofs.Loads.{load-past}
use Rattle.cert_check.proofs.Steps.{room-read}
use Rattle.cert_check.proofs.lawful.is_within_capacity.Goals as goal

pub returns-then-room-loads : goal.returns-then-room-loads
returns-then-room-loads c =
    let i = c.loop-i.i in
    let there = room-read c.args.servers.now i c.index-servers-i.result (omega arith) c.index-servers-i.is in
    (λ no. absurd cc, λ all. absurd (omega (arith, all i, c.loads-loads.ensures i (omega arith))))

pub loop-i-preserved : goal.loop-i-preserved
loop-i-preserved c =
    let i = c.loop-i.i in
    let there = room-read c.args.servers.now i c.index-servers-i.result (omega arith) c.index-servers-i.is in
    below_more _ _ c.loop-i.invariant (omega (arith, c.loads-loads.ensures i (omega arith)))

pub returns : goal.returns
returns c =
    let servers = c.args.servers.now in
    let as_many : length (servers_of servers) ≡ length servers = length-map servers (λ (s : PricedServer). s.server) in (
      λ yes s.
          elim (cases_lt s (length servers)) [
            | inl below ↦ c.loop-i.invariant s (omega arith)
            | inr past ↦ omega (arith, load-past (servers_of servers) c.args.rows.now s c.requires.listed (omega arith))
          ],
      λ all. refl,
    )
