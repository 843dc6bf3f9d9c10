-- Serving a request in steps, with what others do between them. Our own words.
use Rattle.std.specs.Prelude.{◌≡◌, ℕ, ⊤, List, [], Some, Result, Ok, Err, slice_get, slice_set}
use Rattle.std.specs.declared.net.ipv4_addr.Ipv4Addr.{Ipv4Addr}
use Rattle.http_relay_dial.specs.Dials.{Talk}
use Rattle.http_relay_exchange.specs.Requests.{OutgoingView}
use Rattle.http_relay_talk.specs.Shares.{Records, Share, Adds, joined}
use Rattle.http_relay_talk.specs.Visits.{IsUnderway, IsVisit, due}
use Rattle.http_relay_talk.specs.declared.fault.VisitFault.{VisitFault}
use Rattle.http_relay_talk.specs.declared.target.Target.{Target}
use Rattle.http_relay_talk.specs.declared.underway.Underway as visit
use Rattle.http_relay_talk.specs.declared.underway.Underway.TheVariants as visit_stage
use Rattle.lb_desk_ports.specs.Calls.{Grows}
use Rattle.http_relay_serve.specs.Outcomes.{outcome_of, Ends, GotAnswer}
use Rattle.http_relay_serve.specs.Routes.{Routes}
use Rattle.http_relay_serve.specs.Serves.{PortSeen, ClockSeen, DialerSeen, Scene, Serves, scene}
use Rattle.http_relay_serve.specs.declared.fault.BackendFault.TheVariants.{Visit}
use Rattle.http_relay_serve.specs.declared.fault.ServeFault.{ServeFault}
use Rattle.http_relay_serve.specs.declared.fault.ServeFault.TheVariants.{Backend}
use Rattle.http_relay_serve.specs.declared.outcome.Outcome.{Outcome}
use Rattle.http_relay_serve.specs.declared.underway.Stage.{Stage}
use Rattle.http_relay_serve.specs.declared.underway.Stage.TheVariants.{Queueing, Copying}
use Rattle.http_relay_serve.specs.declared.underway.Step.{Step}
use Rattle.http_relay_serve.specs.declared.underway.Step.TheVariants.{Waits, Done}
use Rattle.http_relay_serve.specs.declared.underway.Underway.{Underway}

-- ---- a request at its server

-- the visit of a request that waits
abbrev pub visit_of : {S W : Type 0} → Stage S W → visit.Underway S W
visit_of (Queueing queued) = visit_stage.Queueing queued.queueing
visit_of (Copying held) = visit_stage.Copying held

-- a request that waits in the queue keeps what is sent, and to which server
abbrev pub Keeps : {S W : Type 0} → Target → OutgoingView → Stage S W → Type 0
Keeps target request (Queueing queued) = (queued.target ≡ target) × (queued.request ≡ request)
Keeps target request (Copying held) = ⊤

-- with what the request has done at its server by now, and the client's connection as it was when the head was read and as it is now, the
-- visit of the server is under way
abbrev pub IsVisiting : {S W : Type 0} → (S → ℕ) → (W → Talk) → Target → OutgoingView → Share → Talk → Talk → Stage S W → Type 0
IsVisiting server_of wire target request own headed now stage =
    Keeps target request stage × IsUnderway server_of wire target request own headed now (visit_of stage)

-- the answer of a request whose visit was over with this one
abbrev pub relayed : Result ℕ VisitFault → Result ℕ ServeFault
relayed (Ok count) = Ok count
relayed (Err fault) = Err (Backend (Visit fault))

-- What the request did at its server is a visit, and then, where that was due, the client got an answer of the relay's own
abbrev pub IsOver : {S : Type 0} → (S → ℕ) → Target → OutgoingView → Share → Talk → Talk → Outcome → Type 0
IsOver server_of target request own headed after outcome =
    (answer : Result ℕ VisitFault) × (between : Talk) × IsVisit server_of target request own headed between answer
    × Ends (outcome_of (relayed answer)) between after outcome

-- ---- its share of the records

-- what is recorded at a backend's port, of the clock and at the dialer
abbrev pub recorded : PortSeen → ClockSeen → DialerSeen → Records
recorded port clock dialer = record {
  entries = port.entries;
  refusals = port.refusals;
  told = clock.told;
  dials = dialer.dials;
  talks = dialer.talks;
  failures = dialer.failures;
}

-- of all ports the backend's was used and no other, this share was added to the records, and these pauses were due to it
pub record AddsAt {P : Type 0} (seen : P → PortSeen) (backend : ℕ) (share : Share) (due : List ℕ) (ports used : List P)
    (clock later : ClockSeen) (dialer after : DialerSeen) : Type 0 where
  pub old : P
  pub new : P
  pub its_port : slice_get ports backend ≡ Some old
  pub other_ports : used ≡ slice_set ports backend new
  pub adds : Adds share (recorded (seen old) clock dialer) (recorded (seen new) later after)
  pub pauses : share.pauses ≡ due

-- what `serve_one` promises of a request
abbrev pub Served : {P S : Type 0} → (P → PortSeen) → (S → ℕ) → Routes → Ipv4Addr → List P → List P → Scene → Scene → Outcome → Type 0
Served seen server_of routes source ports used before after outcome =
    Serves seen server_of routes source ports used before after outcome × GotAnswer outcome before.client.written after.client.written

-- What this request did is one service with this outcome: done in one piece, from whatever moment on, and with its pauses made by the clock,
-- it is what `serve_one` promises
abbrev pub IsServed : {P S : Type 0} → (P → PortSeen) → (S → ℕ) → Routes → Ipv4Addr → ℕ → Share → Talk → Talk → Outcome → Type 0
IsServed {P = P} seen server_of routes source backend share client after outcome =
    (ports used : List P) (old new : P) (clock later : ClockSeen) (dialer done : DialerSeen)
    → slice_get ports backend ≡ Some old → used ≡ slice_set ports backend new
    → Adds share (recorded (seen old) clock dialer) (recorded (seen new) later done) → Grows clock.pauses later.pauses share.pauses
    → Served seen server_of routes source ports used (scene clock dialer client) (scene later done after) outcome

-- With what the request has done by now it waits so. Whatever else it does at its server until that comes to an outcome, all that it has
-- done is then one service with that outcome
pub record IsServing {P S W : Type 0} (seen : P → PortSeen) (server_of : S → ℕ) (wire : W → Talk) (routes : Routes) (source : Ipv4Addr)
    (backend : ℕ) (share : Share) (client now : Talk) (stage : Stage S W) : Type 0 where
  pub target : Target
  pub request : OutgoingView
  -- its share at its server, and the client's connection when the head was read
  pub own : Share
  pub headed : Talk
  pub visits : IsVisiting server_of wire target request own headed now stage
  pub serves : (more : Share) (after : Talk) (outcome : Outcome) → IsOver server_of target request (joined own more) headed after outcome
      → IsServed seen server_of routes source backend (joined share more) client after outcome

-- ---- the steps

-- a service that was begun is over, or the request waits at its backend
abbrev pub Begins : {P S W C : Type 0} → (P → PortSeen) → (S → ℕ) → (W → Talk) → (C → Talk) → Routes → Ipv4Addr → List P → List P
    → Scene → ClockSeen → DialerSeen → Step S W C → Type 0
Begins seen server_of wire talk routes source ports used before clock dialer (Done client outcome) =
    Served seen server_of routes source ports used before (scene clock dialer (talk client.wire)) outcome
Begins seen server_of wire talk routes source ports used before clock dialer (Waits underway) =
    (share : Share) × AddsAt seen underway.backend share [] ports used before.clock clock before.dialer dialer
    × IsServing seen server_of wire routes source underway.backend share before.client (talk underway.client.wire) underway.stage

-- with what the request has done at its server by now it waits at the same backend, or is over
abbrev pub ComesTo : {S W C : Type 0} → (S → ℕ) → (W → Talk) → (C → Talk) → Target → OutgoingView → Share → Talk → ℕ → Step S W C → Type 0
ComesTo server_of wire talk target request own headed backend (Waits later) =
    (later.backend ≡ backend) × IsVisiting server_of wire target request own headed (talk later.client.wire) later.stage
ComesTo server_of wire talk target request own headed backend (Done client outcome) =
    IsOver server_of target request own headed (talk client.wire) outcome

-- a step adds a share to the records, and with it the request comes to this
abbrev pub GoesOn : {P S W C : Type 0} → (P → PortSeen) → (S → ℕ) → (W → Talk) → (C → Talk) → Target → OutgoingView → Share → Talk
    → Underway S W C → List P → List P → ClockSeen → ClockSeen → DialerSeen → DialerSeen → Step S W C → Type 0
GoesOn seen server_of wire talk target request own headed underway ports used clock later dialer after step =
    (share : Share) × AddsAt seen underway.backend share (due (visit_of underway.stage)) ports used clock later dialer after
    × ComesTo server_of wire talk target request (joined own share) headed underway.backend step

-- ---- all steps

-- with what the request has done by now it is being served at its backend, or has been served
abbrev pub NowServed : {P S W C : Type 0} → (P → PortSeen) → (S → ℕ) → (W → Talk) → (C → Talk) → Routes → Ipv4Addr → ℕ → Share → Talk
    → Step S W C → Type 0
NowServed seen server_of wire talk routes source backend share client (Waits later) =
    (later.backend ≡ backend) × IsServing seen server_of wire routes source backend share client (talk later.client.wire) later.stage
NowServed seen server_of wire talk routes source backend share client (Done last outcome) =
    IsServed seen server_of routes source backend share client (talk last.wire) outcome

-- A request that is being served takes a step, of which what `go_on` promises holds. Then it is being served still, or has been served, with
-- all that it has done by now. So the steps of a request add up to one service, however many they are and whatever is done between them
abbrev pub StepsAddUp : {P S W C : Type 0} → (P → PortSeen) → (S → ℕ) → (W → Talk) → (C → Talk) → Routes → Type 0
StepsAddUp {P = P} {S = S} {W = W} {C = C} seen server_of wire talk routes =
    (source : Ipv4Addr) (share : Share) (client : Talk) (underway : Underway S W C) (step : Step S W C) (ports used : List P)
    (clock later : ClockSeen) (dialer after : DialerSeen)
    → IsServing seen server_of wire routes source underway.backend share client (talk underway.client.wire) underway.stage
    → ((target : Target) (request : OutgoingView) (own : Share) (headed : Talk)
    → IsVisiting server_of wire target request own headed (talk underway.client.wire) underway.stage
    → GoesOn seen server_of wire talk target request own headed underway ports used clock later dialer after step)
    → (more : Share) × AddsAt seen underway.backend more (due (visit_of underway.stage)) ports used clock later dialer after
    × NowServed seen server_of wire talk routes source underway.backend (joined share more) client step
