use Rattle.std.proofs.Common.{◌≡◌, vec_len, ap, ◌∙◌}
use Rattle.lb_desk_model.specs.Worn.{open_connections}
use Rattle.lb_desk_shared.specs.Desks.{TiedView}
use Rattle.lb_desk_shared.proofs.Standing.{closes_of, none_are_open}
use Rattle.lb_desk_shared.proofs.tied.TiedDesk.close.Goals as goal

pub returns-clause-size : goal.returns-clause-size
returns-clause-size g c = rw (← c.self.view_is, c.into_journal.ensures) c.self.invariant.1

pub returns-clause-closes : goal.returns-clause-closes
returns-clause-closes g c =
    let p = c.self.inside in
    let none : open_connections p.desk.shown ≡ 0 = ap (λ (t : TiedView). open_connections t.desk.shown) c.self.view_is ∙ none_are_open c.args.self (vec_len c.args.passes) c.requires.may in
    rw (← c.self.view_is, c.into_journal.ensures)
    (closes_of (g.B.Naming.opening p.keeper.number) p.keeper.history p.desk c.args.passes.items c.settle.result
    c.self.invariant.0 c.stands_at_a_log.ensures.headline c.settle.ensures.share c.settle.ensures.sights none c.settle.ensures.rising)
