-- A worker that serves one request at a time, as one that does many things in turn. Our own words.
use Rattle.std.specs.Prelude.{◌≡◌, ℕ, List, [], ◌∷◌, Option, Some, None}
use Rattle.std.specs.declared.net.ipv4_addr.Ipv4Addr.{Ipv4Addr}
use Rattle.http_relay_dial.specs.Dials.{Talk}
use Rattle.http_relay_serve.specs.Routes.{Routes}
use Rattle.http_relay_serve.specs.Serves.{PortSeen, ClockSeen, DialerSeen, scene}
use Rattle.http_relay_serve.specs.Steps.{Served}
use Rattle.http_relay_serve.specs.declared.outcome.Outcome.{Outcome}
use Rattle.http_relay_inflight.specs.Turns.{Turn, Flight, ServedAtOnce, Admitted, WentOn, Ended, WorkerSeen, Works, AllOver, in_flight}

-- a request that was served: by this routing, with this client's address and connection when it came, and its outcome, with the connection then
pub record Service (T : Type 0) : Type 0 where
  pub routing : T
  pub source : Ipv4Addr
  pub client : Talk
  pub after : Talk
  pub outcome : Outcome

-- a request that was in flight, and is over
abbrev pub service_of : {T : Type 0} → Option (Flight T) → Talk → Outcome → List (Service T) → List (Service T)
service_of None after outcome earlier = earlier
service_of (Some flight) after outcome earlier = record {
  routing = flight.admission.routing;
  source = flight.admission.source;
  client = flight.admission.client;
  after = after;
  outcome = outcome;
} ∷ earlier

-- the requests that were served in these turns, the last one first
abbrev pub services_of : {T : Type 0} → List (Turn T) → List (Service T)
services_of [] = []
services_of (ServedAtOnce routing source client after outcome ∷ earlier) =
    record { routing = routing; source = source; client = client; after = after; outcome = outcome } ∷ services_of earlier
services_of (Admitted key admission share ∷ earlier) = services_of earlier
services_of (WentOn key share ∷ earlier) = services_of earlier
services_of (Ended key share after outcome ∷ earlier) = service_of (in_flight key earlier) after outcome (services_of earlier)

-- no request came while another was in flight
abbrev pub AreAlone : {T : Type 0} → List (Turn T) → Type 0
AreAlone [] = Unit {0}
AreAlone (ServedAtOnce routing source client after outcome ∷ earlier) = AllOver earlier × AreAlone earlier
AreAlone (Admitted key admission share ∷ earlier) = AllOver earlier × AreAlone earlier
AreAlone (WentOn key share ∷ earlier) = AreAlone earlier
AreAlone (Ended key share after outcome ∷ earlier) = AreAlone earlier

-- a request was served in one piece, as by `serve_one`. What the clock and the dialer were like isn't stated
pub record ServesWhole {T P S : Type 0} (seen : P → PortSeen) (server_of : S → ℕ) (routes : T → Routes) (ports used : List P) (service : Service T) : Type 0 where
  pub clock : ClockSeen
  pub later : ClockSeen
  pub dialer : DialerSeen
  pub done : DialerSeen
  pub serves : Served seen server_of (routes service.routing) service.source ports used (scene clock dialer service.client)
      (scene later done service.after) service.outcome

-- these requests were served one after another, the last one first, and nothing else was done at the ports
abbrev pub ServesInTurn : {T P S : Type 0} → (P → PortSeen) → (S → ℕ) → (T → Routes) → List P → List P → List (Service T) → Type 0
ServesInTurn seen server_of routes ports used [] = used ≡ ports
ServesInTurn {P = P} seen server_of routes ports used (last ∷ earlier) =
    (before : List P) × ServesInTurn seen server_of routes ports before earlier × ServesWhole seen server_of routes before used last

-- if no request comes while another is in flight, and none is in the end, they were served one after another
abbrev pub OneByOne : {T P S : Type 0} → (P → PortSeen) → (S → ℕ) → (T → Routes) → Type 0
OneByOne {T = T} {P = P} seen server_of routes = (start now : WorkerSeen P) (turns : List (Turn T))
    → Works seen server_of routes start now turns → AreAlone turns → AllOver turns
    → ServesInTurn seen server_of routes start.ports now.ports (services_of turns)
