-- What serving one request does: RFC 9112, section 9.6 (one request a connection, by our choice), and HAProxy Configuration Manual 2.8,
-- `use_backend`, `stick on`, `use-server` and `server`. Our own: the backend is asked for pins that weren't used for long, then for the
-- request's server, and the slot is given back before the client gets an answer of the relay's own.
use Rattle.std.specs.Prelude.{◌≡◌, ℕ, List, [], ◌∷◌, Option, Some, None, Result, Ok, Err, IfSome, slice_get, slice_set}
use Rattle.std.specs.declared.net.ipv4_addr.Ipv4Addr.{Ipv4Addr}
use Rattle.http_relay_forward.specs.Forwarded.{forwarded}
use Rattle.http_relay_forward.specs.Framing.{expects_continue}
use Rattle.http_relay_head.specs.Heads.{HeadRead, JudgesInput, after_head}
use Rattle.http_relay_head.specs.ReadHeadView.{ReadHeadView}
use Rattle.http_relay_head.specs.declared.fault.HeadFault.{HeadFault}
use Rattle.http_relay_body.specs.Bodies.{IsBody, IsBodyOf}
use Rattle.http_relay_dial.specs.Dials.{Dial, Talk}
use Rattle.http_relay_exchange.specs.Requests.{OutgoingView}
use Rattle.http_relay_talk.specs.Lessons.{Taught}
use Rattle.http_relay_talk.specs.Talks.{UsesPort, UsesDialer}
use Rattle.http_relay_talk.specs.declared.fault.VisitFault.{VisitFault}
use Rattle.http_relay_talk.specs.declared.target.Target.{Target}
use Rattle.lb_acl.specs.HeadView.{HeadView}
use Rattle.lb_desk_model.specs.declared.entry.Entry.{Entry}
use Rattle.lb_desk_model.specs.declared.event.Request.{Request}
use Rattle.lb_desk_model.specs.declared.reply.ServedAs.{ServedAs}
use Rattle.lb_desk_ports.specs.Calls.{Grows, after_call}
use Rattle.lb_desk_ports.specs.Ports.{AddsAsk}
use Rattle.lb_desk_ports.specs.declared.refused.Refused.{Refused}
use Rattle.lb_desk_ports.specs.declared.replies.Asked.{Asked}
use Rattle.lb_desk_ports.specs.declared.replies.Asked.TheVariants as asked
use Rattle.http_relay_serve.specs.Outcomes.{outcome_of, Ends}
use Rattle.http_relay_serve.specs.Routes.{Routes, target_for}
use Rattle.http_relay_serve.specs.declared.fault.AskFault.{AskFault}
use Rattle.http_relay_serve.specs.declared.fault.AskFault.TheVariants as ask
use Rattle.http_relay_serve.specs.declared.fault.BackendFault.{BackendFault}
use Rattle.http_relay_serve.specs.declared.fault.BackendFault.TheVariants.{Memory, Ask, Visit}
use Rattle.http_relay_serve.specs.declared.fault.ServeFault.{ServeFault}
use Rattle.http_relay_serve.specs.declared.fault.ServeFault.TheVariants.{Head, NoBackend, Backend}
use Rattle.http_relay_serve.specs.declared.outcome.Outcome.{Outcome}

-- ---- what a request meets, at one moment

-- a backend's port: the events that were made through it, and how many calls were refused
pub record PortSeen : Type 0 where
  pub entries : List Entry
  pub refusals : ℕ

-- a clock: its moments and its pauses, where they are recorded
pub record ClockSeen : Type 0 where
  pub told : Option (List ℕ)
  pub pauses : Option (List ℕ)

-- a dialer: its dials and the connections that it took back, where they are recorded, and how many dials failed
pub record DialerSeen : Type 0 where
  pub dials : Option (List Dial)
  pub talks : Option (List Talk)
  pub failures : ℕ

-- all but the ports: the worker's clock and dialer, and the client's connection
pub record Scene : Type 0 where
  pub clock : ClockSeen
  pub dialer : DialerSeen
  pub client : Talk

abbrev pub port_seen : {P : Type 0} → (P → List Entry) → (P → ℕ) → P → PortSeen
port_seen entries refusals port = record { entries = entries port; refusals = refusals port }

abbrev pub clock_seen : {K : Type 0} → (K → Option (List ℕ)) → (K → Option (List ℕ)) → K → ClockSeen
clock_seen told pauses clock = record { told = told clock; pauses = pauses clock }

abbrev pub dialer_seen : {D : Type 0} → (D → Option (List Dial)) → (D → Option (List Talk)) → (D → ℕ) → D → DialerSeen
dialer_seen dials talks failures dialer = record { dials = dials dialer; talks = talks dialer; failures = failures dialer }

abbrev pub scene : ClockSeen → DialerSeen → Talk → Scene
scene clock dialer client = record { clock = clock; dialer = dialer; client = client }

-- ---- the head

-- The client's head is read, with this answer. The answer tells what stands in the bytes that were read, and, where all that the client
-- sends is known, in all of that
pub record TakesHead (source : Ipv4Addr) (old new : Talk) (answer : Result ReadHeadView HeadFault) : Type 0 where
  pub read : HeadRead source old.reading new.reading answer
  pub judged : IfSome old.reading.unread (λ input. JudgesInput source input answer)
  pub faults : new.faults ≡ after_head answer old.faults
  pub unanswered : new.written ≡ old.written

-- ---- the backend's answer

-- the port was asked for the request's server, with this answer: an expiry at the request's moment, and then the request
pub record Asks (request : Request) (old new : PortSeen) (answer : Result Asked Refused) : Type 0 where
  pub entries : AddsAsk request old.entries new.entries answer
  pub refusals : new.refusals ≡ after_call answer old.refusals

-- the server's way is the one that the configuration has for the server that the backend named; or there is none, for this reason
abbrev pub Places : Routes → ℕ → Request → PortSeen → PortSeen → Result Target AskFault → Type 0
Places routes backend request old new (Ok target) =
    (how : ServedAs) × Asks request old new (Ok (asked.Served target.server how)) × (target_for routes backend request target.server ≡ Some target)
Places routes backend request old new (Err ask.UnknownServer) =
    (server : ℕ) × (how : ServedAs) × Asks request old new (Ok (asked.Served server how)) × (target_for routes backend request server ≡ None)
Places routes backend request old new (Err ask.NoServer) = Asks request old new (Ok asked.NoServer)
Places routes backend request old new (Err ask.NoSuchServer) = Asks request old new (Ok asked.NoSuchServer)
Places routes backend request old new (Err (ask.Refused refused)) = Asks request old new (Err refused)

-- the backend is asked for what the configuration makes of the head at the moment that the clock told
pub record AsksAtMoment (routes : Routes) (backend : ℕ) (head : HeadView) (old new : PortSeen) (clock read : ClockSeen)
    (answer : Result Target AskFault) : Type 0 where
  pub request : Request
  pub made_of_head : routes.asks backend head request
  pub tells : Grows clock.told read.told (request.moment ∷ [])
  pub pauses : read.pauses ≡ clock.pauses
  pub places : Places routes backend request old new answer

-- ---- the visit

-- the request as it goes to a server of the backend
abbrev pub outgoing : Routes → ℕ → ReadHeadView → OutgoingView
outgoing routes backend read = record {
  head = forwarded read.head (routes.forwards_address backend);
  kind = read.kind;
  behind = read.rest;
  expects_continue = expects_continue read.head read.kind;
}

-- the backend named a server, and that server was visited: a slot of it was got at most once and given back, and it alone was dialled. At most
-- one pin was set, which its answer taught
pub record Visits {S : Type 0} (server_of : S → ℕ) (routes : Routes) (backend : ℕ) (read : ReadHeadView) (old new : PortSeen)
    (before after : Scene) (answer : Result ℕ VisitFault) : Type 0 where
  pub target : Target
  pub port : PortSeen
  pub clock : ClockSeen
  pub asks : AsksAtMoment routes backend read.head old port before.clock clock (Ok target)
  -- the pin that the answer taught, if it taught one
  pub taught : Taught
  pub uses_port : UsesPort server_of target taught port.entries new.entries port.refusals new.refusals
      clock.told after.clock.told clock.pauses after.clock.pauses answer
  pub uses_dialer : UsesDialer target taught (outgoing routes backend read) before.dialer.dials after.dialer.dials before.dialer.talks after.dialer.talks
      before.dialer.failures after.dialer.failures before.client after.client answer

-- the clock was read, and nothing else was done
pub record OnlyReadsClock (old new : PortSeen) (before after : Scene) : Type 0 where
  pub moment : ℕ
  pub tells : Grows before.clock.told after.clock.told (moment ∷ [])
  pub pauses : after.clock.pauses ≡ before.clock.pauses
  pub port : new ≡ old
  pub dialer : after.dialer ≡ before.dialer
  pub client : after.client ≡ before.client

-- the backend was asked in vain, and nothing else was done
pub record AsksInVain (routes : Routes) (backend : ℕ) (head : HeadView) (old new : PortSeen) (before after : Scene) (fault : AskFault) : Type 0 where
  pub asks : AsksAtMoment routes backend head old new before.clock after.clock (Err fault)
  pub dialer : after.dialer ≡ before.dialer
  pub client : after.client ≡ before.client

-- what was done for a head at its backend
abbrev pub ServesAt : {S : Type 0} → (S → ℕ) → Routes → ℕ → ReadHeadView → PortSeen → PortSeen → Scene → Scene → Result ℕ BackendFault → Type 0
ServesAt server_of routes backend read old new before after (Ok count) = Visits server_of routes backend read old new before after (Ok count)
ServesAt server_of routes backend read old new before after (Err (Visit fault)) = Visits server_of routes backend read old new before after (Err fault)
ServesAt server_of routes backend read old new before after (Err (Ask fault)) = AsksInVain routes backend read.head old new before after fault
ServesAt server_of routes backend read old new before after (Err Memory) = OnlyReadsClock old new before after

-- ---- the whole

-- a head was read, its backend is the one that the configuration says, only that one's port was used, and this was done there; a body
-- of the kind that is sent is this head's
pub record ServesAtBackend {P S : Type 0} (seen : P → PortSeen) (server_of : S → ℕ) (routes : Routes) (source : Ipv4Addr) (ports used : List P)
    (before after : Scene) (answer : Result ℕ BackendFault) : Type 0 where
  pub read : ReadHeadView
  pub client : Talk
  pub takes_head : TakesHead source before.client client (Ok read)
  pub bodies : (text : List ℕ) → IsBody read.kind text → IsBodyOf read.head text
  pub backend : ℕ
  pub routed : routes.backend read.head ≡ Some backend
  pub old : P
  pub new : P
  pub its_port : slice_get ports backend ≡ Some old
  pub other_ports : used ≡ slice_set ports backend new
  pub serves : ServesAt server_of routes backend read (seen old) (seen new) (record before { client = client }) after answer

-- a head was read, no backend takes it, and nothing else was done
pub record FindsNoBackend {P : Type 0} (routes : Routes) (source : Ipv4Addr) (ports used : List P) (before after : Scene) : Type 0 where
  pub read : ReadHeadView
  pub takes_head : TakesHead source before.client after.client (Ok read)
  pub routed : routes.backend read.head ≡ None
  pub ports_kept : used ≡ ports
  pub rest : after ≡ record before { client = after.client }

-- no head was read, and nothing else was done
pub record TakesNoHead {P : Type 0} (source : Ipv4Addr) (ports used : List P) (before after : Scene) (fault : HeadFault) : Type 0 where
  pub takes_head : TakesHead source before.client after.client (Err fault)
  pub ports_kept : used ≡ ports
  pub rest : after ≡ record before { client = after.client }

-- what was done for one request, before an answer of the relay's own
abbrev pub Relays : {P S : Type 0} → (P → PortSeen) → (S → ℕ) → Routes → Ipv4Addr → List P → List P → Scene → Scene → Result ℕ ServeFault → Type 0
Relays seen server_of routes source ports used before after (Ok count) = ServesAtBackend seen server_of routes source ports used before after (Ok count)
Relays seen server_of routes source ports used before after (Err (Backend fault)) =
    ServesAtBackend seen server_of routes source ports used before after (Err fault)
Relays seen server_of routes source ports used before after (Err NoBackend) = FindsNoBackend routes source ports used before after
Relays seen server_of routes source ports used before after (Err (Head fault)) = TakesNoHead source ports used before after fault

-- what serving one request did: what was done for it, and then, where that is due, an answer of the relay's own
pub record Serves {P S : Type 0} (seen : P → PortSeen) (server_of : S → ℕ) (routes : Routes) (source : Ipv4Addr) (ports used : List P)
    (before after : Scene) (outcome : Outcome) : Type 0 where
  pub answer : Result ℕ ServeFault
  -- the client's connection when the server was hung up and its slot was given back
  pub client : Talk
  pub relays : Relays seen server_of routes source ports used before (record after { client = client }) answer
  pub ends : Ends (outcome_of answer) client after.client outcome
