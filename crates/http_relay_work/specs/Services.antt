-- What a worker of the relay does at its ports: it serves the clients' connections one after another, one request each (RFC 9112,
-- section 9.6). Our own words.
use Rattle.std.specs.Prelude.{◌≡◌, ℕ, List, [], ◌∷◌, Option, Some}
use Rattle.std.specs.declared.net.ipv4_addr.Ipv4Addr.{Ipv4Addr}
use Rattle.http_relay_dial.specs.Dials.{IsFresh}
use Rattle.http_relay_serve.specs.Routes.{Routes}
use Rattle.http_relay_serve.specs.Serves.{PortSeen, Scene, Serves}
use Rattle.http_relay_serve.specs.declared.outcome.Outcome.{Outcome}
use Rattle.lb_config.specs.ConfigViews.{ConfigView}
use Rattle.lb_routes.specs.FrontendRoutesView.{FrontendRoutesView}
use Rattle.lb_routes.specs.RequestsOf.{routes_at, routes_of}

-- a request that was served: the place of the frontend, the client's address, and what became of it
pub record Service : Type 0 where
  pub frontend : ℕ
  pub source : Ipv4Addr
  pub outcome : Outcome

-- A request was served by these routes over a fresh connection, whose client sends this text, where that is known. What the clock and the
-- dialer were like before, and the scene after, isn't stated
pub record ServesOnce {P S : Type 0} (seen : P → PortSeen) (server_of : S → ℕ) (routes : Routes) (source : Ipv4Addr) (text : Option (List ℕ))
    (ports used : List P) (outcome : Outcome) : Type 0 where
  pub before : Scene
  pub after : Scene
  pub fresh : IsFresh before.client
  pub sent : before.client.reading.unread ≡ text
  pub serves : Serves seen server_of routes source ports used before after outcome

-- a request was served by what the configuration says at its frontend, over a connection whose client sends this text, where that is known
abbrev pub ServesAtFrontend : {P S : Type 0} → (P → PortSeen) → (S → ℕ) → ConfigView → Option (List ℕ) → List P → List P → Service → Type 0
ServesAtFrontend seen server_of config text ports used service =
    (routes : FrontendRoutesView) × (routes_at config service.frontend ≡ Some routes)
    × ServesOnce seen server_of (routes_of routes) service.source text ports used service.outcome

-- these requests were served, the last one first, whatever their clients sent, and nothing else was done at the ports
abbrev pub ServesInTurn : {P S : Type 0} → (P → PortSeen) → (S → ℕ) → ConfigView → List P → List P → List Service → Type 0
ServesInTurn seen server_of config ports used [] = used ≡ ports
ServesInTurn {P = P} seen server_of config ports used (last ∷ earlier) =
    (before : List P) × (text : Option (List ℕ)) × ServesInTurn seen server_of config ports before earlier
    × ServesAtFrontend seen server_of config text before used last
