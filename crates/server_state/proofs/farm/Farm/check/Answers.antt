use Rattle.std.proofs.Common.{arith}
use Rattle.server_state.proofs.Replaced.{Checks-at}
use Rattle.server_state.proofs.farm.Farm.check.Goals as goal

pub returns : goal.returns
returns c =
    let inside = c.self.inside in
    let made = c.check-result in
    rw (← c.self.view_is) (Checks-at inside.servers.items inside.all_backups c.index-index.result c.args.server c.index_mut.result.now made.new.self made.result c.args.ok c.index-index.ensures.exact (omega (arith, inside.servers.ok.0)) c.index_mut.ensures.value made.ensures)
