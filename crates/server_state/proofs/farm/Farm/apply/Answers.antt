use Rattle.std.proofs.Common.{arith}
use Rattle.server_state.proofs.Replaced.{Sets-at}
use Rattle.server_state.proofs.farm.Farm.apply.Goals as goal

pub returns : goal.returns
returns c =
    let inside = c.self.inside in
    let made = c.set-result in
    rw (← c.self.view_is) (Sets-at inside.servers.items inside.all_backups c.index-index.result c.args.change.server c.index_mut.result.now made.new.self made.result c.args.change.setting c.index-index.ensures.exact (omega (arith, inside.servers.ok.0)) c.index_mut.ensures.value made.ensures.fault made.ensures.ok made.ensures.err)
