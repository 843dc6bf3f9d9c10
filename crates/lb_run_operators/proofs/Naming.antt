-- The names of a backend's servers are those that are configured.
use Rattle.std.proofs.Common.{◌≡◌, ◌∙◌, ℕ, List, [], ◌∷◌, map, refl, ap}
use Rattle.lb_config.specs.ConfigViews.{BackendView}
use Rattle.lb_config_values.specs.ServerView.{ServerView}
use Rattle.lb_desk_backend.specs.Configured.{IsBackendOf, ServerParts, configured_server, server_parts}
use Rattle.lb_desk_model.specs.declared.backend.BackendServer.{BackendServer}
use Rattle.lb_desk_model.specs.Backends.{BackendParts}

of_parts : (servers : List BackendServer) → map (λ s. s.name) servers ≡ map (λ (p : ServerParts). p.name) (map server_parts servers)
of_parts [] = refl
of_parts (s ∷ ss) = ap (λ (l : List (List ℕ)). s.name ∷ l) (of_parts ss)

of_views : (servers : List ServerView) → map (λ (p : ServerParts). p.name) (map configured_server servers) ≡ map (λ s. s.name) servers
of_views [] = refl
of_views (s ∷ ss) = ap (λ (l : List (List ℕ)). s.name ∷ l) (of_views ss)

pub same_names : (config : BackendView) (backend : BackendParts) → IsBackendOf config backend
    → map (λ s. s.name) backend.servers ≡ map (λ s. s.name) config.servers
same_names config backend is =
    of_parts backend.servers ∙ ap (λ (l : List ServerParts). map (λ (p : ServerParts). p.name) l) is.servers ∙ of_views config.servers
