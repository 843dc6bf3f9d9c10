-- What becomes of a request: relayed, answered by the relay, or dropped. RFC 9112, section 8: a server may answer an incomplete
-- request before it closes the connection. Our own: behind the first byte of a response, and where the client's wire failed, the
-- client gets nothing more.
use Rattle.std.specs.Prelude.{◌≡◌, ◌⊎◌, ℕ, ◌==◌, ⊤, List, Option, Result, Ok, Err, if◌then◌else◌}
use Rattle.std.specs.Io.KnownBytes.{append_known}
use Rattle.http_relay_wire.specs.declared.fault.WireFault.{WireFault}
use Rattle.http_relay_wire.specs.declared.fault.WireFault.TheVariants.{Timeout, Broken}
use Rattle.http_relay_forward.specs.Answers.{continue_text}
use Rattle.http_relay_head.specs.declared.fault.HeadFault.{HeadFault}
use Rattle.http_relay_head.specs.declared.fault.HeadFault.TheVariants as head
use Rattle.http_relay_body.specs.declared.fault.BodyFault.{BodyFault}
use Rattle.http_relay_body.specs.declared.fault.BodyFault.TheVariants as body
use Rattle.http_relay_body.specs.declared.response.CopyFault.{CopyFault}
use Rattle.http_relay_body.specs.declared.response.CopyFault.TheVariants as copy
use Rattle.http_relay_dial.specs.Dials.{Talk}
use Rattle.http_relay_exchange.specs.Exchanges.{wrote, FailsToWrite}
use Rattle.http_relay_exchange.specs.declared.fault.ExchangeFault.TheVariants.{Send, Copy}
use Rattle.http_relay_exchange.specs.declared.fault.SendFault.{SendFault}
use Rattle.http_relay_exchange.specs.declared.fault.SendFault.TheVariants as send
use Rattle.http_relay_talk.specs.declared.fault.TalkFault.{TalkFault}
use Rattle.http_relay_talk.specs.declared.fault.TalkFault.TheVariants.{Dial, Exchange}
use Rattle.http_relay_talk.specs.declared.fault.VisitFault.{VisitFault}
use Rattle.http_relay_talk.specs.declared.fault.VisitFault.TheVariants as visit
use Rattle.http_relay_serve.specs.Causes.{cause_text}
use Rattle.http_relay_serve.specs.declared.cause.Cause.{Cause}
use Rattle.http_relay_serve.specs.declared.cause.Cause.TheVariants as cause
use Rattle.http_relay_serve.specs.declared.fault.AskFault.{AskFault}
use Rattle.http_relay_serve.specs.declared.fault.AskFault.TheVariants as ask
use Rattle.http_relay_serve.specs.declared.fault.BackendFault.TheVariants.{Memory, Ask, Visit}
use Rattle.http_relay_serve.specs.declared.fault.ServeFault.{ServeFault}
use Rattle.http_relay_serve.specs.declared.fault.ServeFault.TheVariants.{Head, NoBackend, Backend}
use Rattle.http_relay_serve.specs.declared.outcome.DropCause.TheVariants.{HeadBroken, ContinueNotTaken, BodyNotRead, ResponseCutShort, ResponseNotTaken, AnswerNotTaken}
use Rattle.http_relay_serve.specs.declared.outcome.Outcome.{Outcome}
use Rattle.http_relay_serve.specs.declared.outcome.Outcome.TheVariants.{Relayed, Answered, Dropped}

-- no head was read
abbrev pub of_head : HeadFault → Outcome
of_head head.HeadTooLarge = Answered cause.HeadTooLarge
of_head head.BadHead = Answered cause.BadHead
of_head head.BothLengths = Answered cause.BothLengths
of_head head.Truncated = Answered cause.HeadCutShort
of_head (head.Wire Timeout) = Answered cause.HeadTimedOut
of_head (head.Wire Broken) = Dropped HeadBroken
of_head head.Memory = Answered cause.HeadMemory

-- the backend gave no server
abbrev pub of_ask : AskFault → Cause
of_ask (ask.Refused refused) = cause.RequestRefused refused
of_ask ask.NoServer = cause.NoServer
of_ask ask.NoSuchServer = cause.NoSuchServer
of_ask ask.UnknownServer = cause.UnknownServer

-- the body was not sent to its end
abbrev pub of_body : BodyFault → Outcome
of_body body.Truncated = Answered cause.BodyCutShort
of_body body.BadChunk = Answered cause.BadChunk
of_body (body.Client fault) = Dropped (BodyNotRead fault)
of_body (body.Server fault) = Answered (cause.BodyNotTaken fault)

-- the request was not sent to its end
abbrev pub of_send : SendFault → Outcome
of_send (send.Continue fault) = Dropped (ContinueNotTaken fault)
of_send (send.Head fault) = Answered (cause.HeadNotTaken fault)
of_send (send.Body fault) = of_body fault

-- the response was not copied to its end
abbrev pub of_copy : CopyFault → Outcome
of_copy (copy.NoResponse Timeout) = Answered cause.ResponseTimedOut
of_copy (copy.NoResponse Broken) = Answered cause.ResponseBroken
of_copy (copy.CutShort fault) = Dropped (ResponseCutShort fault)
of_copy (copy.Client fault) = Dropped (ResponseNotTaken fault)

-- the talk with the server did not come to its end
abbrev pub of_talk : TalkFault → Outcome
of_talk (Dial fault) = Answered (cause.NotDialled fault)
of_talk (Exchange (Send fault)) = of_send fault
of_talk (Exchange (Copy fault)) = of_copy fault

-- the visit of the server did not come to its end
abbrev pub of_visit : VisitFault → Outcome
of_visit (visit.Refused refused) = Answered (cause.OpenRefused refused)
of_visit visit.NotServing = Answered cause.NotServing
of_visit visit.QueueOver = Answered cause.QueueOver
of_visit (visit.Talk fault) = of_talk fault

-- what is due to a request: its response had so many bytes, or it was not relayed
abbrev pub outcome_of : Result ℕ ServeFault → Outcome
outcome_of (Ok count) = if count == 0 then Answered cause.NoResponse else Relayed
outcome_of (Err (Head fault)) = of_head fault
outcome_of (Err NoBackend) = Answered cause.NoBackend
outcome_of (Err (Backend Memory)) = Answered cause.RequestMemory
outcome_of (Err (Backend (Ask fault))) = Answered (of_ask fault)
outcome_of (Err (Backend (Visit fault))) = of_visit fault

-- What the client gets at last, and what became of the request: where an answer of the relay's own is due, its bytes; and where
-- these can't be written the client gets a beginning of them and the request is dropped
abbrev pub Ends : Outcome → Talk → Talk → Outcome → Type 0
Ends Relayed old new outcome = (outcome ≡ Relayed) × (new ≡ old)
Ends (Dropped why) old new outcome = (outcome ≡ Dropped why) × (new ≡ old)
Ends (Answered why) old new outcome =
    ((outcome ≡ Answered why) × (new ≡ wrote old (cause_text why)))
    ⊎ ((fault : WireFault) × (outcome ≡ Dropped (AnswerNotTaken why fault)) × FailsToWrite (cause_text why) fault old new)

-- where the relay answered by itself, the client got the answer's text, and nothing else but leave to go on before it
abbrev pub GotAnswer : Outcome → Option (List ℕ) → Option (List ℕ) → Type 0
GotAnswer Relayed before after = ⊤
GotAnswer (Dropped why) before after = ⊤
GotAnswer (Answered why) before after =
    (after ≡ append_known before (cause_text why)) ⊎ (after ≡ append_known (append_known before continue_text) (cause_text why))
