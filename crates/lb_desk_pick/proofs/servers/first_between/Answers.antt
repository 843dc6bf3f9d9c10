use Rattle.std.proofs.Common.{ℕ, Some, sym, ap, ◌∙◌}
use Rattle.lb_types.specs.Servers.{has}
use Rattle.lb_desk_pick.proofs.Ranges.{found_at, none_next}
use Rattle.lb_desk_pick.proofs.servers.first_between.Goals as goal

pub returns-then-has : goal.returns-then-has
returns-then-has c =
    let set = has c.args.set in
    ap (λ (s : ℕ). Some s) c.new-server.ensures
    ∙ found_at set c.args.from c.loop-i.i c.args.end c.loop-i.auto.i c.loop-i-test.true c.loop-i.invariant
    (ap set (sym c.new-server.ensures) ∙ (sym c.has.ensures ∙ c.if-has.true))

pub loop-i-preserved : goal.loop-i-preserved
loop-i-preserved c =
    let set = has c.args.set in
    none_next set c.args.from c.loop-i.i c.loop-i.auto.i c.loop-i.invariant
    (ap set (sym c.new-server.ensures) ∙ (sym c.has.ensures ∙ c.if-has.false))
