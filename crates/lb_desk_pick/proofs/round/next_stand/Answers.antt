use Rattle.std.proofs.Common.{sym, ap, ◌∙◌}
use Rattle.lb_types.specs.Servers.{has}
use Rattle.lb_desk_model.specs.Picks.{next_stand}
use Rattle.lb_desk_pick.proofs.Balances.{turns_first, round_begun, round_on, round_again}
use Rattle.lb_desk_pick.proofs.round.next_stand.Goals as goal

pub returns-in_default : goal.returns-in_default
returns-in_default c servers shown =
    round_begun servers c.args.candidates c.first_turn.result
    (turns_first c.args.farm.now servers shown c.args.candidates c.requires c.len-end.result c.len-end.ensures.exact c.first_turn.result c.first_turn.ensures)
    ∙ ap (next_stand (has c.args.candidates) servers) (sym c.in_default.is)

pub returns-in-Some-stand_behind : goal.returns-in-Some-stand_behind
returns-in-Some-stand_behind c servers shown =
    round_on servers c.args.candidates c.in-Some.last c.in-Some-stand_behind.stand (sym c.in-Some-stand_behind.is ∙ c.stand_behind.ensures servers shown)
    ∙ ap (next_stand (has c.args.candidates) servers) (sym c.in-Some.is)

pub returns-in-None : goal.returns-in-None
returns-in-None c servers shown =
    round_again servers c.args.candidates c.in-Some.last c.first_turn-in-None.result (sym c.in-None.is ∙ c.stand_behind.ensures servers shown)
    (turns_first c.args.farm.now servers shown c.args.candidates c.requires c.len-end.result c.len-end.ensures.exact c.first_turn-in-None.result c.first_turn-in-None.ensures)
    ∙ ap (next_stand (has c.args.candidates) servers) (sym c.in-Some.is)
