-- What is seen of a backend's servers at its opening.
use Rattle.std.proofs.Common.{◌≡◌, ℕ, Option, Some, None, List, [], ◌∷◌, length, map, replicate, refl, ap, ◌∙◌}
use Rattle.std.specs.Option.{option_map}
use Rattle.rise_fall.specs.Tally.{Tally}
use Rattle.server_state.specs.declared.settings.CheckSettings.{CheckSettings}
use Rattle.server_state.specs.declared.settings.ServerSettings.{ServerSettings}
use Rattle.server_state.specs.Farm.{FarmView, farm_at_start}
use Rattle.server_state.specs.Server.{ServerView, health_at_start}
use Rattle.server_state.specs.Server.{server_at_start as started_server}
use Rattle.lb_desk_model.specs.declared.backend.BackendServer.{BackendServer}
use Rattle.lb_desk_model.specs.Backends.{BackendParts}
use Rattle.lb_desk_model.specs.States.{checks_at_start, farm_of, health_of, opening, seen_server, server_at_start}
use Rattle.lb_desk_servers.proofs.Changed.{connections_of}

abbrev pub settings_of : BackendServer → ServerSettings
settings_of s = s.settings

health_started : (check : Option CheckSettings) → option_map health_at_start check ≡ option_map health_of (option_map checks_at_start check)
health_started (Some check) = refl
health_started None = refl

server_started : (s : BackendServer) → started_server s.settings ≡ seen_server (server_at_start s)
server_started s = ap (λ (h : Option Tally). record (seen_server (server_at_start s)) { health = h }) (health_started s.settings.check)

servers_started : (servers : List BackendServer) → map started_server (map settings_of servers) ≡ map seen_server (map server_at_start servers)
servers_started [] = refl
servers_started (s ∷ servers) = λ i. server_started s i ∷ servers_started servers i

pub farm_started : (backend : BackendParts) → farm_at_start (map settings_of backend.servers) backend.all_backups ≡ farm_of (opening backend)
farm_started backend =
    ap (λ (vs : List ServerView). record (farm_of (opening backend)) { servers = vs }) (servers_started backend.servers)

pub none_open : (servers : List BackendServer) → replicate (length servers) 0 ≡ map connections_of (map server_at_start servers)
none_open [] = refl
none_open (s ∷ servers) = ap (λ (cs : List ℕ). 0 ∷ cs) (none_open servers)
