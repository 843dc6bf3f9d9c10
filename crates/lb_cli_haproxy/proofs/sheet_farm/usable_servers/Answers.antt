use Rattle.std.proofs.Common.{ℕ, ◌&&◌, ◌||◌, eqb, ap, ◌∙◌}
use Rattle.lb_types.specs.Servers.{has}
use Rattle.lb_cli_haproxy.specs.Sheets.{stays_on, stays_on_at}
use Rattle.lb_cli_haproxy.proofs.OnServers.{on_here, one_on, all_on}
use Rattle.lb_cli_haproxy.proofs.sheet_farm.usable_servers.Goals as goal

pub loop-i-preserved : goal.loop-i-preserved
unfolding stays_on_at
loop-i-preserved c s =
    let test = stays_on_at c.args.gone.now c.args.servers.now in
    let here = c.stays_on.ensures ∙ on_here (stays_on c.args.gone.now) c.args.servers.now c.loop-i.i c.index-servers-i.result c.loop-i-test.true c.index-servers-i.is in
    c.with_if-usable.ensures s
    ∙ (ap (λ (k : ℕ). (c.stays_on.result && eqb s k) || has c.loop-i.usable s) c.new.ensures
    ∙ one_on test c.loop-i.i s c.stays_on.result (has c.loop-i.usable s) here (c.loop-i.invariant s))

pub returns : goal.returns
unfolding stays_on_at
returns c s = c.loop-i.invariant s ∙ all_on (stays_on c.args.gone.now) c.args.servers.now c.loop-i.i s c.loop-i-test.false
