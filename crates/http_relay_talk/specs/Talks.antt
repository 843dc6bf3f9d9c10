-- What a request does at its server: the connection that is opened and given back, and the talk over it. Our own words.
use Rattle.std.specs.Prelude.{◌≡◌, ℕ, List, [], ◌∷◌, ◌++◌, Option, Result, Ok, Err}
use Rattle.http_relay_wire.specs.Faults.{one_more}
use Rattle.http_relay_wire.specs.declared.fault.WireFault.{WireFault}
use Rattle.http_relay_dial.specs.Dials.{Dial, Talk, IsFresh}
use Rattle.http_relay_exchange.specs.Exchanges.{Exchanged}
use Rattle.http_relay_exchange.specs.Requests.{OutgoingView}
use Rattle.http_relay_exchange.specs.declared.fault.ExchangeFault.{ExchangeFault}
use Rattle.http_relay_queue.specs.Queues.{Queued}
use Rattle.http_relay_queue.specs.declared.queue.Waited.TheVariants as waited
use Rattle.lb_desk_model.specs.declared.entry.Entry.{Entry}
use Rattle.lb_desk_ports.specs.Calls.{Grows, after_call}
use Rattle.lb_desk_ports.specs.Ports.{shutting_entries}
use Rattle.lb_desk_ports.specs.declared.refused.Refused.{Refused}
use Rattle.lb_desk_ports.specs.declared.replies.Shut.{Shut}
use Rattle.http_relay_talk.specs.Lessons.{Learns, Taught, Teaches, untaught}
use Rattle.http_relay_talk.specs.Shares.{after_refusals}
use Rattle.http_relay_talk.specs.declared.target.Target.{Target}
use Rattle.http_relay_talk.specs.declared.fault.TalkFault.{TalkFault}
use Rattle.http_relay_talk.specs.declared.fault.TalkFault.TheVariants as talk
use Rattle.http_relay_talk.specs.declared.fault.VisitFault.{VisitFault}
use Rattle.http_relay_talk.specs.declared.fault.VisitFault.TheVariants as visit

-- the target's endpoint was dialled, a fresh connection came, request and response passed over it with this answer, and it was given back.
-- The bytes that were read of the server have taught this
pub record TalkedOver (target : Target) (taught : Taught) (request : OutgoingView) (dials dialled : Option (List Dial))
    (talks ended : Option (List Talk)) (client after : Talk) (answer : Result ℕ ExchangeFault) : Type 0 where
  pub first : Talk
  pub last : Talk
  pub fresh : IsFresh first
  pub dial : Grows dials dialled (record { endpoint = target.endpoint; limits = target.limits; answer = Ok first.reading } ∷ [])
  pub exchanged : Exchanged request client after first last answer
  pub learned : Teaches first.reading last.reading (λ text. Learns target.lesson target.server text taught)
  pub hung_up : Grows talks ended (last ∷ [])

-- the target's endpoint was dialled in vain, and the client saw nothing of that
pub record DialledInVain (target : Target) (taught : Taught) (fault : WireFault) (dials dialled : Option (List Dial))
    (talks ended : Option (List Talk)) (failures failed : ℕ) (client after : Talk) : Type 0 where
  pub dial : Grows dials dialled (record { endpoint = target.endpoint; limits = target.limits; answer = Err fault } ∷ [])
  pub unlearned : taught ≡ untaught
  pub counted : failed ≡ one_more failures
  pub no_talk : ended ≡ talks
  pub unseen : after ≡ client

-- what a talk with the target's server did, to its end or until a fault
abbrev pub Talked : Target → Taught → OutgoingView → Option (List Dial) → Option (List Dial) → Option (List Talk) → Option (List Talk)
    → ℕ → ℕ → Talk → Talk → Result ℕ TalkFault → Type 0
Talked target taught request dials dialled talks ended failures failed client after (Ok count) =
    TalkedOver target taught request dials dialled talks ended client after (Ok count) × (failed ≡ failures)
Talked target taught request dials dialled talks ended failures failed client after (Err (talk.Exchange fault)) =
    TalkedOver target taught request dials dialled talks ended client after (Err fault) × (failed ≡ failures)
Talked target taught request dials dialled talks ended failures failed client after (Err (talk.Dial fault)) =
    DialledInVain target taught fault dials dialled talks ended failures failed client after

-- A slot of the server was got after a wait, then this was learned, and then the slot was given back: its end stands among the entries, or the
-- call was refused
pub record HeldAndGaveBack {S : Type 0} (server_of : S → ℕ) (target : Target) (taught : Taught) (before after : List Entry) (refusals refused : ℕ)
    (told_before told paused_before paused : Option (List ℕ)) : Type 0 where
  pub slot : S
  pub of : server_of slot ≡ target.server
  pub held : List Entry
  pub opened : Queued target.queue target.server (Ok (waited.Opened slot)) before held told_before told paused_before paused
  pub shut : Result Shut Refused
  pub given_back : after ≡ (held ++ taught.entries) ++ shutting_entries target.server shut
  pub counted : refused ≡ after_call shut (after_refusals taught.refusals refusals)

-- what a visit did at the port: it got no slot, or held one and gave it back
abbrev pub UsesPort : {S : Type 0} → (S → ℕ) → Target → Taught → List Entry → List Entry → ℕ → ℕ
    → Option (List ℕ) → Option (List ℕ) → Option (List ℕ) → Option (List ℕ) → Result ℕ VisitFault → Type 0
UsesPort {S = S} server_of target taught before after refusals refused told_before told paused_before paused (Err (visit.Refused fault)) =
    Queued {S = S} target.queue target.server (Err fault) before after told_before told paused_before paused
    × (refused ≡ after_call {A = Unit {0}} (Err fault) refusals)
UsesPort {S = S} server_of target taught before after refusals refused told_before told paused_before paused (Err visit.NotServing) =
    Queued {S = S} target.queue target.server (Ok waited.NotServing) before after told_before told paused_before paused × (refused ≡ refusals)
UsesPort {S = S} server_of target taught before after refusals refused told_before told paused_before paused (Err visit.QueueOver) =
    Queued {S = S} target.queue target.server (Ok waited.Over) before after told_before told paused_before paused × (refused ≡ refusals)
UsesPort server_of target taught before after refusals refused told_before told paused_before paused (Err (visit.Talk fault)) =
    HeldAndGaveBack server_of target taught before after refusals refused told_before told paused_before paused
UsesPort server_of target taught before after refusals refused told_before told paused_before paused (Ok count) =
    HeldAndGaveBack server_of target taught before after refusals refused told_before told paused_before paused

-- nothing was dialled, and the client saw nothing
pub record Idle (dials dialled : Option (List Dial)) (talks ended : Option (List Talk)) (failures failed : ℕ) (client after : Talk) : Type 0 where
  pub no_dial : dialled ≡ dials
  pub no_talk : ended ≡ talks
  pub no_failure : failed ≡ failures
  pub unseen : after ≡ client

-- what a visit did over the dialer and the client's connection
abbrev pub UsesDialer : Target → Taught → OutgoingView → Option (List Dial) → Option (List Dial) → Option (List Talk) → Option (List Talk)
    → ℕ → ℕ → Talk → Talk → Result ℕ VisitFault → Type 0
UsesDialer target taught request dials dialled talks ended failures failed client after (Ok count) =
    Talked target taught request dials dialled talks ended failures failed client after (Ok count)
UsesDialer target taught request dials dialled talks ended failures failed client after (Err (visit.Talk fault)) =
    Talked target taught request dials dialled talks ended failures failed client after (Err fault)
UsesDialer target taught request dials dialled talks ended failures failed client after (Err (visit.Refused fault)) = Idle dials dialled talks ended failures failed client after
UsesDialer target taught request dials dialled talks ended failures failed client after (Err visit.NotServing) = Idle dials dialled talks ended failures failed client after
UsesDialer target taught request dials dialled talks ended failures failed client after (Err visit.QueueOver) = Idle dials dialled talks ended failures failed client after
