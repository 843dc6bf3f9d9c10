-- The parts of a step: how a visit comes from the queue to its server, and how it ends; and steps in a row. No public clause cites this module.
use Rattle.std.specs.Prelude.{◌≡◌, ℕ, ◌+◌, ⊤, List, [], ◌∷◌, Option, Result, Ok, Err}
use Rattle.http_relay_body.specs.declared.response.CopyFault.{CopyFault}
use Rattle.http_relay_dial.specs.Dials.{Dial, Talk, IsFresh}
use Rattle.http_relay_exchange.specs.Exchanges.{Sent}
use Rattle.http_relay_exchange.specs.Requests.{OutgoingView}
use Rattle.http_relay_exchange.specs.declared.fault.ExchangeFault.TheVariants as exchange
use Rattle.http_relay_queue.specs.Asks.{Asks, IfOpened}
use Rattle.http_relay_queue.specs.declared.asking.Asking.{Asking}
use Rattle.http_relay_queue.specs.declared.asking.Queueing as queue
use Rattle.http_relay_wire.specs.Wires.{Reading}
use Rattle.lb_desk_ports.specs.Calls.{Grows}
use Rattle.lb_desk_ports.specs.declared.refused.Refused.{Refused}
use Rattle.http_relay_talk.specs.Lessons.{untaught}
use Rattle.http_relay_talk.specs.Shares.{Records, Share, Adds, joined, refusals_of}
use Rattle.http_relay_talk.specs.Talks.{Talked}
use Rattle.http_relay_talk.specs.Visits.{Stands}
use Rattle.http_relay_talk.specs.declared.fault.TalkFault.{TalkFault}
use Rattle.http_relay_talk.specs.declared.fault.TalkFault.TheVariants as talk
use Rattle.http_relay_talk.specs.declared.fault.VisitFault.{VisitFault}
use Rattle.http_relay_talk.specs.declared.fault.VisitFault.TheVariants as visit
use Rattle.http_relay_talk.specs.declared.target.Target.{Target}
use Rattle.http_relay_talk.specs.declared.underway.Step.{Step}
use Rattle.http_relay_talk.specs.declared.underway.Step.TheVariants.{Waits, Done}
use Rattle.http_relay_talk.specs.declared.underway.Underway.TheVariants.{Queueing, Copying}

-- the request has asked for a connection, the last time with this answer, and has done nothing else
pub record HasAsked {S : Type 0} (server_of : S → ℕ) (target : Target) (own : Share) (asking : Result (Asking S) Refused) : Type 0 where
  pub asks : Asks target.queue target.server own.entries own.told own.pauses asking
  pub slot : IfOpened asking (λ slot. server_of slot ≡ target.server)
  pub refused : own.refusals ≡ refusals_of asking
  pub none_dialled : own.dials ≡ []
  pub none_given_back : own.talks ≡ []
  pub none_failed : own.failures ≡ []

-- the server was dialled and got the request; or the answer says why not, and the connection was given back
abbrev pub DialsAndSends : {W : Type 0} → (W → Talk) → Target → OutgoingView → Option (List Dial) → Option (List Dial)
    → Option (List Talk) → Option (List Talk) → ℕ → ℕ → Talk → Talk → Result W TalkFault → Type 0
DialsAndSends seen target request dials dialled talks ended failures failed client after (Ok connection) =
    (first : Talk) × IsFresh first
    × Grows dials dialled (record { endpoint = target.endpoint; limits = target.limits; answer = Ok first.reading } ∷ [])
    × Sent request client after first (seen connection) (Ok tt)
    × (ended ≡ talks) × (failed ≡ failures)
DialsAndSends seen target request dials dialled talks ended failures failed client after (Err fault) =
    Talked target untaught request dials dialled talks ended failures failed client after (Err fault)

-- the answer of a visit whose request was sent, by that of the copying
abbrev pub visit_answer : Result ℕ CopyFault → Result ℕ VisitFault
visit_answer (Ok count) = Ok count
visit_answer (Err fault) = Err (visit.Talk (talk.Exchange (exchange.Copy fault)))

-- steps in a row, with their pauses made by the clock, add a share to the records, and with it the visit stands so
abbrev pub Passes : {S W : Type 0} → (S → ℕ) → (W → Talk) → Target → OutgoingView → Share → Talk → Talk → Records → Records
    → Option (List ℕ) → Option (List ℕ) → Step S W → Type 0
Passes server_of seen target request own client now old new before paused step =
    (share : Share) × Adds share old new × Grows before paused share.pauses × Stands server_of seen target request (joined own share) client now step

-- the visit waits in the queue, and of that this holds; else nothing is said
abbrev pub IfQueueing : {S W : Type 0} → Step S W → (queue.Queueing → Type 0) → Type 0
IfQueueing (Waits (Queueing queueing)) holds = holds queueing
IfQueueing (Waits (Copying held)) holds = ⊤
IfQueueing (Done answer) holds = ⊤

-- the visit doesn't wait in the queue
abbrev pub HasLeftQueue : {S W : Type 0} → Step S W → Type 0
HasLeftQueue step = IfQueueing step (λ queueing. ⊥)

-- how many reads of the response are left at most
abbrev pub reads_left : {S W : Type 0} → (W → Reading) → Step S W → ℕ
reads_left reading (Waits (Queueing queueing)) = 0
reads_left reading (Waits (Copying held)) = (reading held.connection).left + 1
reads_left reading (Done answer) = 0
