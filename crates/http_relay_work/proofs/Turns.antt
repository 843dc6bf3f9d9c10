-- Requests that are served one after another.
use Rattle.std.proofs.Common.{◌≡◌, ℕ, List, ◌∷◌, Option, Some, None, sym, subst}
use Rattle.std.specs.Prelude.{IfSome, IfNone}
use Rattle.std.specs.declared.net.ipv4_addr.Ipv4Addr.{Ipv4Addr}
use Rattle.http_relay_serve.specs.Serves.{PortSeen}
use Rattle.http_relay_serve.specs.declared.outcome.Outcome.{Outcome}
use Rattle.lb_config.specs.ConfigViews.{ConfigView}
use Rattle.http_relay_work.specs.Services.{Service, ServesAtFrontend, ServesInTurn}

-- one request more was served, or one came to no frontend
pub one_more : {P S A : Type 0} (seen : P → PortSeen) (server_of : S → ℕ) (config : ConfigView) (first ports used : List P)
    (text : Option (List ℕ)) (frontend : ℕ) (source : Ipv4Addr) (outcome_of : A → Outcome) (answer : Option A)
    → ((services : List Service) × ServesInTurn seen server_of config first ports services)
    → IfSome answer (λ served. ServesAtFrontend seen server_of config text ports used
    (record { frontend = frontend; source = source; outcome = outcome_of served }))
    → IfNone answer (used ≡ ports)
    → (services : List Service) × ServesInTurn seen server_of config first used services
one_more seen server_of config first ports used text frontend source outcome_of (Some served) earlier serves unserved =
    (record { frontend = frontend; source = source; outcome = outcome_of served } ∷ earlier.0, (ports, text, earlier.1, serves))
one_more seen server_of config first ports used text frontend source outcome_of None earlier serves unserved =
    (earlier.0, subst (λ (now : List _). ServesInTurn seen server_of config first now earlier.0) (sym unserved) earlier.1)
