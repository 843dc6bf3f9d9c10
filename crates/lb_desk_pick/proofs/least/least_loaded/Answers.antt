use Rattle.lb_desk_pick.proofs.Balances.{least_walked}
use Rattle.lb_desk_pick.proofs.least.least_loaded.Goals as goal

pub returns : goal.returns
returns c servers seen =
    least_walked c.args.farm.now c.args.book.now servers seen c.args.candidates c.requires c.args.cursor c.first_behind-start.result c.len-end.result c.freest_between-found.result c.freest_between.result c.first_behind-start.ensures.exact c.len-end.ensures.exact c.freest_between-found.ensures c.freest_between.ensures
