-- A visit of a server in steps, with what others do between them. Our own words.
use Rattle.std.specs.Prelude.{◌≡◌, ℕ, ◌<◌, ⊤, List, [], ◌∷◌, ◌++◌, Option, Some, Result, Ok}
use Rattle.http_relay_body.specs.Copies as response
use Rattle.http_relay_body.specs.Copying.{CopiedOn}
use Rattle.http_relay_body.specs.declared.response.CopyFault.{CopyFault}
use Rattle.http_relay_dial.specs.Dials.{Talk, IsFresh}
use Rattle.http_relay_exchange.specs.Exchanges.{Sent}
use Rattle.http_relay_exchange.specs.Requests.{OutgoingView}
use Rattle.http_relay_queue.specs.Asks.{HasEnded, IsQueueing, pauses_left}
use Rattle.http_relay_queue.specs.declared.asking.Queueing as queue
use Rattle.http_relay_queue.specs.declared.queue.Waited.TheVariants.{Opened}
use Rattle.http_relay_wire.specs.Wires.{Reading}
use Rattle.lb_desk_model.specs.declared.entry.Entry.{Entry}
use Rattle.lb_desk_ports.specs.Calls.{Grows}
use Rattle.http_relay_talk.specs.Lessons.{LessonView, Learns, Taught, Teaches, untaught}
use Rattle.http_relay_talk.specs.Shares.{Records, Share, Adds, joined}
use Rattle.http_relay_talk.specs.Talks.{UsesPort, UsesDialer}
use Rattle.http_relay_talk.specs.declared.fault.VisitFault.{VisitFault}
use Rattle.http_relay_talk.specs.declared.learning.Learning.{Learning}
use Rattle.http_relay_talk.specs.declared.learning.Learning.TheVariants.{Over, Goes}
use Rattle.http_relay_talk.specs.declared.target.Target.{Target}
use Rattle.http_relay_talk.specs.declared.underway.Awaits.{Awaits}
use Rattle.http_relay_talk.specs.declared.underway.Awaits.TheVariants.{Pause, Readable}
use Rattle.http_relay_talk.specs.declared.underway.Held.{Held}
use Rattle.http_relay_talk.specs.declared.underway.Step.{Step}
use Rattle.http_relay_talk.specs.declared.underway.Step.TheVariants.{Waits, Done}
use Rattle.http_relay_talk.specs.declared.underway.Underway.{Underway}
use Rattle.http_relay_talk.specs.declared.underway.Underway.TheVariants.{Queueing, Copying}

-- What this request did is a visit with this answer: done in one piece, from whatever moment on, and with its pauses made by the clock,
-- it is what `visit` promises
abbrev pub IsVisit : {S : Type 0} → (S → ℕ) → Target → OutgoingView → Share → Talk → Talk → Result ℕ VisitFault → Type 0
IsVisit server_of target request share client after answer = (old new : Records) (before paused : Option (List ℕ))
    → Adds share old new → Grows before paused share.pauses
    → (taught : Taught) × UsesPort server_of target taught old.entries new.entries old.refusals new.refusals old.told new.told before paused answer
    × UsesDialer target taught request old.dials new.dials old.talks new.talks old.failures new.failures client after answer

-- a part of a response was copied, after so many bytes of it: what was read of the server went out to the client
pub record CopiesFrom (count : ℕ) (client after : Talk) (server drained : Talk) (answer : Result ℕ CopyFault) : Type 0 where
  pub copied : CopiedOn count server.reading drained.reading client.written after.written answer
  pub client_faults : after.faults ≡ response.client_faults answer client.faults
  pub server_faults : drained.faults ≡ response.server_faults answer server.faults
  pub client_reading : after.reading ≡ client.reading
  pub server_written : drained.written ≡ server.written

-- So much of the server's answer was read, and this was learned. Where more of it may still teach, nothing was learned yet, and what was
-- read is kept
abbrev pub IsLearning : Option LessonView → ℕ → List ℕ → Learning → Taught → Type 0
IsLearning lesson server answer Over taught = Learns lesson server answer taught
IsLearning lesson server answer (Goes front) taught =
    (lesson ≡ Some front.lesson) × (front.server ≡ server) × (front.bytes.items ≡ answer) × (taught ≡ untaught)

-- the request has asked for a connection and waits in the queue, and the client has seen nothing
pub record Queues (target : Target) (own : Share) (client now : Talk) (queueing : queue.Queueing) : Type 0 where
  pub waits : IsQueueing target.queue target.server own.entries own.told own.pauses queueing
  pub none_refused : own.refusals ≡ []
  pub none_dialled : own.dials ≡ []
  pub none_given_back : own.talks ≡ []
  pub none_failed : own.failures ≡ []
  pub unseen : now ≡ client

-- the request has got this slot of the server, dialled it, and was sent; since then this was learned and this much was copied, and nothing
-- was given back
pub record Holds {S : Type 0} (server_of : S → ℕ) (target : Target) (request : OutgoingView) (own : Share) (client now : Talk)
    (slot : S) (connection : Talk) (Copies : Taught → Talk → Talk → Talk → Talk → Type 0) : Type 0 where
  pub of : server_of slot ≡ target.server
  pub asked : List Entry
  pub taught : Taught
  pub opened : HasEnded target.queue target.server asked own.told own.pauses (Ok (Opened slot))
  pub entries : own.entries ≡ asked ++ taught.entries
  pub refusals : own.refusals ≡ taught.refusals
  pub first : Talk
  pub fresh : IsFresh first
  pub dial : own.dials ≡ record { endpoint = target.endpoint; limits = target.limits; answer = Ok first.reading } ∷ []
  pub none_given_back : own.talks ≡ []
  pub none_failed : own.failures ≡ []
  pub between : Talk
  pub sent : Talk
  pub request_sent : Sent request client between first sent (Ok tt)
  pub copies : Copies taught between now sent connection

-- so many bytes of the response were copied, and learned from
abbrev pub IsCopying : {S W : Type 0} → (S → ℕ) → (W → Talk) → Target → OutgoingView → Share → Talk → Talk → Held S W → Type 0
IsCopying server_of seen target request own client now held = Holds server_of target request own client now held.slot (seen held.connection)
    (λ taught between now sent connection. CopiesFrom 0 between now sent connection (Ok held.copied)
    × Teaches sent.reading connection.reading (λ text. IsLearning target.lesson target.server text held.learning taught))

-- with what the request has done by now, and the client's connection as it was when it began and as it is now, the visit is under way
abbrev pub IsUnderway : {S W : Type 0} → (S → ℕ) → (W → Talk) → Target → OutgoingView → Share → Talk → Talk → Underway S W → Type 0
IsUnderway server_of seen target request own client now (Queueing queueing) = Queues target own client now queueing
IsUnderway server_of seen target request own client now (Copying held) = IsCopying server_of seen target request own client now held

-- with what the request has done by now the visit is under way, or over
abbrev pub Stands : {S W : Type 0} → (S → ℕ) → (W → Talk) → Target → OutgoingView → Share → Talk → Talk → Step S W → Type 0
Stands server_of seen target request own client now (Waits underway) = IsUnderway server_of seen target request own client now underway
Stands server_of seen target request own client now (Done answer) = IsVisit server_of target request own client now answer

-- a step adds a share to the records, these pauses were due to it, and with it the visit stands so
abbrev pub Steps : {S W : Type 0} → (S → ℕ) → (W → Talk) → Target → OutgoingView → Share → Talk → Talk → Records → Records → List ℕ → Step S W → Type 0
Steps server_of seen target request own client now old new pauses step =
    (share : Share) × Adds share old new × (share.pauses ≡ pauses) × Stands server_of seen target request (joined own share) client now step

-- what the visit waits for
abbrev pub awaits : {S W : Type 0} → Underway S W → Awaits
awaits (Queueing queueing) = Pause 50
awaits (Copying held) = Readable

-- how many bytes of the response were copied
abbrev pub copied : {S W : Type 0} → Underway S W → ℕ
copied (Queueing queueing) = 0
copied (Copying held) = held.copied

-- the pauses that are due before the next step
abbrev pub due : {S W : Type 0} → Underway S W → List ℕ
due (Queueing queueing) = 50 ∷ []
due (Copying held) = []

-- A step brings the visit nearer to its end: in the queue fewer pauses are left, out of it less can be read of the server, and it
-- doesn't come back to the queue
abbrev pub Nears : {S W : Type 0} → Option ℕ → (W → Reading) → Underway S W → Step S W → Type 0
Nears limit reading (Queueing queueing) (Waits (Queueing later)) = pauses_left limit later < pauses_left limit queueing
Nears limit reading (Queueing queueing) (Waits (Copying held)) = ⊤
Nears limit reading (Copying held) (Waits (Queueing queueing)) = ⊥
Nears limit reading (Copying held) (Waits (Copying later)) = (reading later.connection).left < (reading held.connection).left
Nears limit reading (Queueing queueing) (Done answer) = ⊤
Nears limit reading (Copying held) (Done answer) = ⊤
