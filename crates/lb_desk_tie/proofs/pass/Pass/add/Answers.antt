use Rattle.std.proofs.Common.{[], ◌∷◌, ◌++◌, ◌∙◌, ap, sym}
use Rattle.lb_desk_tie.specs.Rule.{pass_view, list_of, sights_in}
use Rattle.lb_desk_tie.proofs.Moves.{told_is}
use Rattle.lb_desk_tie.proofs.pass.Pass.add.Goals as goal

pub invariant_of-self : goal.invariant_of-self
invariant_of-self g c =
    let old = c.self.inside in
    let views = c.tell.ensures.pass ∙ ap (λ badge. pass_view (list_of badge.views ++ (c.args.number, c.args.entry.now) ∷ []) (sights_in badge.views) ∷ []) c.replace-badge.ensures.value in
    let told = told_is c.tell.result.views (list_of old.badge.views) (sights_in old.badge.views) c.args.number c.args.entry.now old.next old.rising views c.self.invariant.2 c.self.invariant.3 in
    (c.tell.ensures.pass_table ∙ c.requires.table ∙ ap (λ pass. g.B.Tables.table_of pass.keeper) (sym c.self.view_is), told.0, told.1, told.2)
