-- What a core shows is reached.
use Rattle.std.proofs.Common.{◌≡◌, ℕ, List, [], ◌∷◌, ◌++◌, map, refl, ap}
use Rattle.lb_desk_model.specs.declared.event.Event.{Event}
use Rattle.lb_desk_model.specs.declared.reply.Reply.{Reply}
use Rattle.lb_desk_model.specs.Backends.{BackendParts, IsBackend}
use Rattle.lb_desk_model.specs.Seen.{Seen, Steps, seen}
use Rattle.lb_desk_model.specs.declared.backend.BackendServer.{BackendServer}
use Rattle.lb_desk_model.specs.States.{ServerState, opening, server_at_start}
use Rattle.lb_desk_law.specs.Worlds.{entry}
use Rattle.lb_desk_seen.proofs.Reaching.{opening_is_shown, steps_are_shown}
use Rattle.lb_desk_core.specs.Core.{IsReached}

-- a step leads on
pub reached_further : (old : Seen) (event : Event) (reply : Reply) (new : Seen) → IsReached old → Steps old event reply new → IsReached new
reached_further old event reply new r steps = record {
  backend = r.backend;
  lawful = r.lawful;
  log = r.log ++ entry event reply ∷ [];
  reaches = steps_are_shown r.backend r.log old event reply new r.reaches steps;
}

-- the opening is reached
pub reached_opening : (backend : BackendParts) → IsBackend backend → IsReached (seen (opening backend))
reached_opening backend lawful = record {
  backend = backend;
  lawful = lawful;
  log = [];
  reaches = opening_is_shown backend;
}

-- ---- names

abbrev pub configured_name : BackendServer → List ℕ
configured_name s = s.name

abbrev pub name_at : ServerState → List ℕ
name_at s = s.name

-- the servers have their configured names
pub names_started : (servers : List BackendServer) → map configured_name servers ≡ map name_at (map server_at_start servers)
names_started [] = refl
names_started (s ∷ servers) = ap (λ (names : List (List ℕ)). s.name ∷ names) (names_started servers)
