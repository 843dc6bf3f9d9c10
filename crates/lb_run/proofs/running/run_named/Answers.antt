use Rattle.std.proofs.Common.{◌∙◌, map, sym, subst, ℕ, List}
use Rattle.lb_run_desks.specs.NewDesks.{numbers}
use Rattle.lb_run_floor.specs.Places.{AreAt}
use Rattle.lb_run_floor.proofs.InOrder.{at_places}
use Rattle.lb_run.specs.Runs.{AreOpened, opened_as}
use Rattle.lb_run.proofs.Closings.{all_opened}
use Rattle.lb_run.proofs.Order.{numbered, open_in_order}
use Rattle.lb_run.proofs.running.run_named.Goals as goal

pub serve-requires-clause-places : goal.serve-requires-clause-places
serve-requires-clause-places g c κs within =
    let opening = g.B.Naming.opening in
    let sizes = g.B.Naming.journal_size in
    let configs = c.args.config.now.backends in
    let news = c.args.desks.items in
    subst (λ (l : List ℕ). AreAt configs (map (opened_as opening sizes) l)) (sym (c.deref.ensures.value ∙ c.in_ok-desks.ensures))
    (at_places configs (map (opened_as opening sizes) (numbers news)) (open_in_order opening sizes configs (numbers news)
    (all_opened opening sizes configs news (λ place desk at. ((c.requires.names place desk at).1, (c.requires.names place desk at).2)) c.requires.opened)
    (numbered news)))

pub close_all-requires : goal.close_all-requires
close_all-requires g c =
    subst (λ (l : List ℕ). AreOpened g.B.Naming.opening g.B.Naming.journal_size c.args.config.now.backends l) (sym c.in_ok-desks.ensures)
    (all_opened g.B.Naming.opening g.B.Naming.journal_size c.args.config.now.backends c.args.desks.items
    (λ place desk at. ((c.requires.names place desk at).1, (c.requires.names place desk at).2)) c.requires.opened)
