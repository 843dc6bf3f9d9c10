use Rattle.std.proofs.Common.{sym, ◌∙◌}
use Rattle.lb_desk_pick.proofs.Balances.{behind_own, behind_others}
use Rattle.lb_desk_pick.proofs.round.stand_behind.Goals as goal

pub returns-in-Some : goal.returns-in-Some
returns-in-Some c servers shown =
    behind_own c.args.farm.now servers shown c.args.candidates c.requires c.args.last c.in-Some.stand (sym c.in-Some.is ∙ c.next_turn.ensures)

pub returns-in-None : goal.returns-in-None
returns-in-None c servers shown =
    behind_others c.args.farm.now servers shown c.args.candidates c.requires c.args.last (sym c.in-None.is ∙ c.next_turn.ensures)
    c.behind-from.result c.len-end.result c.behind-from.ensures.exact c.len-end.ensures.exact c.first_turn.result c.first_turn.ensures
