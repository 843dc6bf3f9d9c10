use Rattle.std.proofs.Common.{ap, ◌∙◌, arith}
use Rattle.lb_desk_tie.specs.Rule.{pass_view, list_of, sights_in}
use Rattle.lb_desk_tie.proofs.Moves.{joins, handed_is, pass_is}
use Rattle.lb_desk_tie.proofs.steps.take_in.Goals as goal

pub into_seat-requires : goal.into_seat-requires
into_seat-requires g c = (pass_view (list_of c.args.pass.views) (sights_in c.args.pass.views), c.requires.pass)

pub join_seat-requires : goal.join_seat-requires
join_seat-requires g c =
    let other = c.into_seat.ensures in
    (c.requires.table, other.0 ∙ c.requires.pass_table ∙ c.requires.table, other.3, omega (arith, c.requires.one_word), joins _ _ _ _ (ap (λ m. m.0.keeps) c.requires.keeper))

pub returns-clause-keeper : goal.returns-clause-keeper
returns-clause-keeper g c =
    let old = c.args.seat.now.me.0 in
    c.join_seat.ensures.2 ∙ handed_is c.args.seat.now.me c.into_seat.result.me.0 old.history old.passes old.lists old.sights (list_of c.args.pass.views) (sights_in c.args.pass.views) c.requires.keeper (pass_is c.args.pass.views c.into_seat.result.me.0 c.into_seat.ensures.2 c.requires.pass)
