-- The parts of a request's way to its server, and of a step there. No public clause cites this module.
use Rattle.std.specs.Prelude.{◌≡◌, ℕ, ◌+◌, ◌≤◌, List, [], ◌∷◌, length, Some, None, Result, Ok, Err}
use Rattle.std.specs.Vec.{vec_len, vec_capacity}
use Rattle.std.specs.declared.net.ipv4_addr.Ipv4Addr.{Ipv4Addr}
use Rattle.http_relay_body.specs.Bodies.{IsBody, IsBodyOf}
use Rattle.http_relay_dial.specs.Dials.{Talk}
use Rattle.http_relay_exchange.specs.Requests.{OutgoingView}
use Rattle.http_relay_head.specs.ReadHeadView.{ReadHeadView}
use Rattle.http_relay_talk.specs.Shares.{Share, Adds, nothing, joined}
use Rattle.http_relay_talk.specs.Visits.{IsVisit}
use Rattle.http_relay_talk.specs.declared.fault.VisitFault.{VisitFault}
use Rattle.http_relay_talk.specs.declared.target.Target.{Target}
use Rattle.lb_acl.specs.HeadView.{HeadView}
use Rattle.lb_desk_model.specs.declared.event.Request.{Request}
use Rattle.lb_desk_model.specs.declared.reply.ServedAs.{ServedAs}
use Rattle.lb_desk_ports.specs.Calls.{Grows}
use Rattle.lb_desk_ports.specs.Ports.{AddsAsk}
use Rattle.lb_desk_ports.specs.declared.replies.Asked.TheVariants as asked
use Rattle.http_relay_serve.specs.Routes.{Routes, target_for}
use Rattle.http_relay_serve.specs.Serves.{PortSeen, ClockSeen, DialerSeen, Scene, TakesHead, AsksAtMoment, ServesAt, Relays, outgoing}
use Rattle.http_relay_serve.specs.Steps.{AddsAt, IsServing, IsVisiting, recorded}
use Rattle.http_relay_serve.specs.declared.beginning.Begun.{Begun}
use Rattle.http_relay_serve.specs.declared.beginning.Begun.TheVariants as begun
use Rattle.http_relay_serve.specs.declared.beginning.Started.{Started}
use Rattle.http_relay_serve.specs.declared.beginning.Started.TheVariants as started
use Rattle.http_relay_serve.specs.declared.fault.BackendFault.{BackendFault}
use Rattle.http_relay_serve.specs.declared.fault.BackendFault.TheVariants.{Memory, Ask, Visit}
use Rattle.http_relay_serve.specs.declared.fault.ServeFault.{ServeFault}
use Rattle.http_relay_serve.specs.declared.fault.ServeFault.TheVariants.{Head, NoBackend, Backend}
use Rattle.http_relay_serve.specs.declared.finding.Found.{Found}
use Rattle.http_relay_serve.specs.declared.going.Gone.{Gone}
use Rattle.http_relay_serve.specs.declared.going.Gone.TheVariants as gone
use Rattle.http_relay_serve.specs.declared.placing.Prepared.{Prepared}
use Rattle.http_relay_serve.specs.declared.underway.Stage.{Stage}

-- ---- the head, and the backend's answer

-- a head was read whose backend is the one that the configuration says, and a body of the kind that is sent is this head's; or no head was
-- read, or no backend takes it
abbrev pub Finds : Routes → Ipv4Addr → Talk → Talk → Result Found ServeFault → Type 0
Finds routes source client headed (Ok found) =
    TakesHead source client headed (Ok found.read) × (routes.backend found.read.head ≡ Some found.backend)
    × ((text : List ℕ) → IsBody found.read.kind text → IsBodyOf found.read.head text)
Finds routes source client headed (Err NoBackend) =
    (read : ReadHeadView) × TakesHead source client headed (Ok read) × (routes.backend read.head ≡ None)
Finds routes source client headed (Err (Head fault)) = TakesHead source client headed (Err fault)
Finds routes source client headed (Err (Backend fault)) = ⊥

-- the request as it goes to the server, with what was read after the client's head
abbrev pub sends : Prepared → List ℕ → OutgoingView
sends prepared behind = record {
  head = prepared.head.items;
  kind = prepared.kind;
  behind = behind;
  expects_continue = prepared.expects_continue;
}

-- the backend has named the server, what this gets is made, and its memory has room for what was read after the head; or there was no
-- server, or no memory and nothing was asked
abbrev pub Prepares : Routes → ℕ → ReadHeadView → PortSeen → PortSeen → ClockSeen → ClockSeen → Result Prepared BackendFault → Type 0
Prepares routes backend read old new clock later (Ok prepared) =
    AsksAtMoment routes backend read.head old new clock later (Ok prepared.target)
    × (sends prepared read.rest ≡ outgoing routes backend read)
    × (vec_len prepared.head + length read.rest ≤ vec_capacity prepared.head)
Prepares routes backend read old new clock later (Err (Ask fault)) = AsksAtMoment routes backend read.head old new clock later (Err fault)
Prepares routes backend read old new clock later (Err Memory) =
    (moment : ℕ) × Grows clock.told later.told (moment ∷ []) × (later.pauses ≡ clock.pauses) × (new ≡ old)
Prepares routes backend read old new clock later (Err (Visit fault)) = ⊥

-- ---- a service that was begun

-- the answer of a request at its backend, by that of its visit
abbrev pub visited : Result ℕ VisitFault → Result ℕ BackendFault
visited (Ok count) = Ok count
visited (Err fault) = Err (Visit fault)

-- the answer of a request, by that at its backend
abbrev pub at_backend : Result ℕ BackendFault → Result ℕ ServeFault
at_backend (Ok count) = Ok count
at_backend (Err fault) = Err (Backend fault)

-- this share is that the backend was asked for what the configuration makes of the head, at the moment that the clock gave, and named the server
pub record IsAsking (routes : Routes) (backend : ℕ) (head : HeadView) (target : Target) (share : Share) : Type 0 where
  pub request : Request
  pub made_of_head : routes.asks backend head request
  pub how : ServedAs
  pub asks : AddsAsk request [] share.entries (Ok (asked.Served target.server how))
  pub way : target_for routes backend request target.server ≡ Some target
  pub only : share ≡ record nothing { entries = share.entries; told = request.moment ∷ [] }

-- the backend was asked and named the server, and then the visit of that has begun and waits so
pub record HasBegun {S W : Type 0} (server_of : S → ℕ) (wire : W → Talk) (routes : Routes) (backend : ℕ) (read : ReadHeadView)
    (old new : PortSeen) (before after : Scene) (stage : Stage S W) : Type 0 where
  pub target : Target
  pub asking : Share
  pub asks : IsAsking routes backend read.head target asking
  pub own : Share
  pub adds : Adds (joined asking own) (recorded old before.clock before.dialer) (recorded new after.clock after.dialer)
  pub unpaused : own.pauses ≡ []
  pub visits : IsVisiting server_of wire target (outgoing routes backend read) own before.client after.client stage

-- what was begun at a backend waits, or is over
abbrev pub BeginsAt : {S W : Type 0} → (S → ℕ) → (W → Talk) → Routes → ℕ → ReadHeadView → PortSeen → PortSeen → Scene → Scene → Begun S W → Type 0
BeginsAt server_of wire routes backend read old new before after (begun.Waits stage) =
    HasBegun server_of wire routes backend read old new before after stage
BeginsAt server_of wire routes backend read old new before after (begun.Ended answer) =
    ServesAt server_of routes backend read old new before after answer

-- what was begun waits at its backend, or is over but for an answer of the relay's own
abbrev pub Starts : {P S W : Type 0} → (P → PortSeen) → (S → ℕ) → (W → Talk) → Routes → Ipv4Addr → List P → List P → Scene → Scene
    → Started S W → Type 0
Starts seen server_of wire routes source ports used before after (started.Waits backend stage) =
    (share : Share) × AddsAt seen backend share [] ports used before.clock after.clock before.dialer after.dialer
    × IsServing seen server_of wire routes source backend share before.client after.client stage
Starts seen server_of wire routes source ports used before after (started.Ended answer) =
    Relays seen server_of routes source ports used before after answer

-- ---- a step

-- with what the request has done at its server by now its visit waits, or is over
abbrev pub Stays : {S W : Type 0} → (S → ℕ) → (W → Talk) → Target → OutgoingView → Share → Talk → Talk → Gone S W → Type 0
Stays server_of wire target request own headed now (gone.Waits stage) = IsVisiting server_of wire target request own headed now stage
Stays server_of wire target request own headed now (gone.Over answer) = IsVisit server_of target request own headed now answer

-- a step at the server adds a share to the records, these pauses were due to it, and with it the visit stands so
abbrev pub GoesOnAt : {S W : Type 0} → (S → ℕ) → (W → Talk) → Target → OutgoingView → Share → Talk → Talk → PortSeen → PortSeen
    → ClockSeen → ClockSeen → DialerSeen → DialerSeen → List ℕ → Gone S W → Type 0
GoesOnAt server_of wire target request own headed now old new clock later dialer after pauses come =
    (share : Share) × Adds share (recorded old clock dialer) (recorded new later after) × (share.pauses ≡ pauses)
    × Stays server_of wire target request (joined own share) headed now come
