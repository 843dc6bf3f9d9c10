use Rattle.std.proofs.Common.{◌≡◌, length, map, replicate, ap, ◌∙◌}
use Rattle.server_state.specs.Farm.{farm_at_start}
use Rattle.capacity_book.specs.Book.{BookView}
use Rattle.lb_desk_model.specs.declared.backend.BackendServer.{BackendServer}
use Rattle.lb_desk_servers.proofs.Started.{farm_started, none_open, settings_of}
use Rattle.lb_desk_servers.proofs.opening.open_servers.Goals as goal

pub returns-clause-farm : goal.returns-clause-farm
returns-clause-farm c =
    let backend = c.args.backend.now in
    let settings : c.deref.result.now ≡ map settings_of backend.servers =
    c.deref.ensures.value ∙ (c.in_ok-settings.ensures ∙ ap (map settings_of) c.servers-servers.ensures.exact) in
    c.in_ok-farm.ensures ∙ ((λ i. farm_at_start (settings i) (c.all_backups.ensures i)) ∙ farm_started backend)

pub returns-clause-connections : goal.returns-clause-connections
returns-clause-connections c =
    let backend = c.args.backend.now in
    ap (λ (b : BookView). b.connections) c.in_ok-book.ensures
    ∙ ((λ i. replicate (length (c.servers-servers.ensures.exact i)) 0) ∙ none_open backend.servers)
