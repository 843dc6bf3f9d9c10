-- What a worker does that serves many requests at a time: it does something for one of them, and then for another. Our own words.
use Rattle.std.specs.Prelude.{◌≡◌, ◌≢◌, ℕ, ◌==◌, List, [], ◌∷◌, Option, Some, None, IsSome, if◌then◌else◌}
use Rattle.std.specs.declared.net.ipv4_addr.Ipv4Addr.{Ipv4Addr}
use Rattle.http_relay_dial.specs.Dials.{Talk}
use Rattle.http_relay_talk.specs.Shares.{Share, joined}
use Rattle.http_relay_talk.specs.Visits.{due}
use Rattle.http_relay_serve.specs.Routes.{Routes}
use Rattle.http_relay_serve.specs.Serves.{PortSeen, ClockSeen, DialerSeen, scene}
use Rattle.http_relay_serve.specs.Steps.{AddsAt, IsServed, IsServing, Served, visit_of}
use Rattle.http_relay_serve.specs.declared.outcome.Outcome.{Outcome}
use Rattle.http_relay_serve.specs.declared.underway.Underway.{Underway}
use Rattle.http_relay_inflight.specs.Requests.{Requests}
use Rattle.http_relay_inflight.specs.declared.progress.Progress.{Progress}
use Rattle.http_relay_inflight.specs.declared.progress.Progress.TheVariants.{Waits, Over}
use Rattle.keyed_values.specs.Keys.{at}

-- ---- what was done

-- a request that was admitted: the routing that serves it, its client's address and connection when it came, and the backend where it waits
pub record Admission (T : Type 0) : Type 0 where
  pub routing : T
  pub source : Ipv4Addr
  pub client : Talk
  pub backend : ℕ

-- what was done for one request before it waited again, or was over
pub data Turn (T : Type 0) : Type 0 where
  -- it came and was served with this outcome, and never waited: the routing, the client's address, and its connection before and after
  ServedAtOnce : T → Ipv4Addr → Talk → Talk → Outcome → Turn T
  -- it came, this was done for it, and it waits under the key
  Admitted : ℕ → Admission T → Share → Turn T
  -- this was done for the request under the key, and it waits there still
  WentOn : ℕ → Share → Turn T
  -- this was done for the request under the key, and it is over: its client's connection, and the outcome
  Ended : ℕ → Share → Talk → Outcome → Turn T

-- a request in flight, and all that was done for it by now
pub record Flight (T : Type 0) : Type 0 where
  pub admission : Admission T
  pub share : Share

-- with this share more
abbrev pub longer : {T : Type 0} → Share → Option (Flight T) → Option (Flight T)
longer share None = None
longer share (Some flight) = Some (record { admission = flight.admission; share = joined flight.share share })

-- the request that is in flight under the key after these turns, the last one first
abbrev pub in_flight : {T : Type 0} → ℕ → List (Turn T) → Option (Flight T)
in_flight key [] = None
in_flight key (ServedAtOnce routing source client after outcome ∷ earlier) = in_flight key earlier
in_flight key (Admitted its admission share ∷ earlier) =
    if its == key then Some (record { admission = admission; share = share }) else in_flight key earlier
in_flight key (WentOn its share ∷ earlier) = if its == key then longer share (in_flight key earlier) else in_flight key earlier
in_flight key (Ended its share after outcome ∷ earlier) = if its == key then None else in_flight key earlier

-- ---- where it was done

-- the ports of a worker, and its clock and its dialer by what they have recorded
pub record WorkerSeen (P : Type 0) : Type 0 where
  pub ports : List P
  pub clock : ClockSeen
  pub dialer : DialerSeen

abbrev pub worker_seen : {P : Type 0} → List P → ClockSeen → DialerSeen → WorkerSeen P
worker_seen ports clock dialer = record { ports = ports; clock = clock; dialer = dialer }

-- at the backend's port, by the clock and at the dialer this was done, and nothing else anywhere
abbrev pub Adds : {P : Type 0} → (P → PortSeen) → ℕ → Share → WorkerSeen P → WorkerSeen P → Type 0
Adds seen backend share old new = AddsAt seen backend share share.pauses old.ports new.ports old.clock new.clock old.dialer new.dialer

-- The worker took this turn after the earlier ones, and did nothing else. If the request was over with it, all that was done for it, from
-- when it came, is one service: what `serve_one` promises of it
abbrev pub Takes : {T P S : Type 0} → (P → PortSeen) → (S → ℕ) → (T → Routes) → Turn T → List (Turn T) → WorkerSeen P → WorkerSeen P → Type 0
Takes seen server_of routes (ServedAtOnce routing source client after outcome) earlier old new =
    Served seen server_of (routes routing) source old.ports new.ports (scene old.clock old.dialer client) (scene new.clock new.dialer after) outcome
Takes seen server_of routes (Admitted key admission share) earlier old new =
    (in_flight key earlier ≡ None) × Adds seen admission.backend share old new
Takes {T = T} seen server_of routes (WentOn key share) earlier old new =
    (flight : Flight T) × (in_flight key earlier ≡ Some flight) × Adds seen flight.admission.backend share old new
Takes {T = T} seen server_of routes (Ended key share after outcome) earlier old new =
    (flight : Flight T) × (in_flight key earlier ≡ Some flight) × Adds seen flight.admission.backend share old new
    × IsServed seen server_of (routes flight.admission.routing) flight.admission.source flight.admission.backend (joined flight.share share)
    flight.admission.client after outcome

-- the worker took these turns, the last one first, and did nothing else
abbrev pub Works : {T P S : Type 0} → (P → PortSeen) → (S → ℕ) → (T → Routes) → WorkerSeen P → WorkerSeen P → List (Turn T) → Type 0
Works seen server_of routes start now [] = now ≡ start
Works {P = P} seen server_of routes start now (last ∷ earlier) =
    (before : WorkerSeen P) × Works seen server_of routes start before earlier × Takes seen server_of routes last earlier before now

-- no request is in flight any more
abbrev pub AllOver : {T : Type 0} → List (Turn T) → Type 0
AllOver turns = (key : ℕ) → in_flight key turns ≡ None

-- ---- what is kept

-- a request that is in flight is kept, and with what was done for it by now it waits; no other one is kept
abbrev pub IsKept : {T P S W C : Type 0} → (P → PortSeen) → (S → ℕ) → (W → Talk) → (C → Talk) → (T → Routes) → Option (Flight T)
    → Option (Underway S W C) → Type 0
IsKept seen server_of wire talk routes None None = Unit {0}
IsKept seen server_of wire talk routes None (Some underway) = ⊥
IsKept seen server_of wire talk routes (Some flight) None = ⊥
IsKept seen server_of wire talk routes (Some flight) (Some underway) = (underway.backend ≡ flight.admission.backend)
    × IsServing seen server_of wire (routes flight.admission.routing) flight.admission.source flight.admission.backend flight.share
    flight.admission.client (talk underway.client.wire) underway.stage

-- the requests that are in flight after these turns are those that are kept, each under its key
abbrev pub Keeps : {T P S W C : Type 0} → (P → PortSeen) → (S → ℕ) → (W → Talk) → (C → Talk) → (T → Routes) → List (Turn T)
    → Requests S W C → Type 0
Keeps seen server_of wire talk routes turns requests = (key : ℕ) → IsKept seen server_of wire talk routes (in_flight key turns) (at requests.kept key)

-- ---- a call

-- one turn more was taken, and those in flight after it are kept
abbrev pub TakesTurn : {T P S W C : Type 0} → (P → PortSeen) → (S → ℕ) → (W → Talk) → (C → Talk) → (T → Routes) → Turn T → List (Turn T)
    → WorkerSeen P → WorkerSeen P → Requests S W C → Type 0
TakesTurn seen server_of wire talk routes last turns old new requests =
    Takes seen server_of routes last turns old new × Keeps seen server_of wire talk routes (last ∷ turns) requests

-- a request came by this routing from a client with this address and connection
abbrev pub Admits : {T P S W C : Type 0} → (P → PortSeen) → (S → ℕ) → (W → Talk) → (C → Talk) → (T → Routes) → T → Ipv4Addr → Talk
    → List (Turn T) → WorkerSeen P → WorkerSeen P → Requests S W C → Progress C → Type 0
Admits seen server_of wire talk routes routing source client turns old new requests (Over last outcome) =
    TakesTurn seen server_of wire talk routes (ServedAtOnce routing source client (talk last.wire) outcome) turns old new requests
Admits seen server_of wire talk routes routing source client turns old new requests (Waits key) = (backend : ℕ) × (share : Share) × (share.pauses ≡ [])
    × TakesTurn seen server_of wire talk routes
    (Admitted key (record { routing = routing; source = source; client = client; backend = backend }) share) turns old new requests

-- the pauses that are due before the next step of a request
abbrev pub due_to : {S W C : Type 0} → Option (Underway S W C) → List ℕ
due_to None = []
due_to (Some underway) = due (visit_of underway.stage)

-- the request under the key took a step, to which these pauses were due
abbrev pub Steps : {T P S W C : Type 0} → (P → PortSeen) → (S → ℕ) → (W → Talk) → (C → Talk) → (T → Routes) → ℕ → List ℕ
    → List (Turn T) → WorkerSeen P → WorkerSeen P → Requests S W C → Progress C → Type 0
Steps seen server_of wire talk routes key pauses turns old new requests (Over last outcome) = (share : Share) × (share.pauses ≡ pauses)
    × TakesTurn seen server_of wire talk routes (Ended key share (talk last.wire) outcome) turns old new requests
Steps seen server_of wire talk routes key pauses turns old new requests (Waits same) = (share : Share) × (share.pauses ≡ pauses)
    × TakesTurn seen server_of wire talk routes (WentOn key share) turns old new requests

-- ---- which keys have a request

-- a request has come to the key, or none has
abbrev pub Comes : {S W C : Type 0} → Requests S W C → Requests S W C → Progress C → Type 0
Comes old new (Over last outcome) = new ≡ old
Comes old new (Waits key) =
    (at old.kept key ≡ None) × IsSome (at new.kept key) × ((other : ℕ) → other ≢ key → at new.kept other ≡ at old.kept other)

-- the request under the key is there still, or has left, and no other one has changed
abbrev pub StaysOrLeaves : {S W C : Type 0} → ℕ → Requests S W C → Requests S W C → Progress C → Type 0
StaysOrLeaves key old new (Over last outcome) = (at new.kept key ≡ None) × ((other : ℕ) → other ≢ key → at new.kept other ≡ at old.kept other)
StaysOrLeaves key old new (Waits same) =
    (same ≡ key) × IsSome (at new.kept key) × ((other : ℕ) → other ≢ key → at new.kept other ≡ at old.kept other)
