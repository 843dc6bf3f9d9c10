-- Why the relay answers a request by itself, and how. What each status means is RFC 9110, section 15. When a proxy gives it is the
-- table of statuses in the HAProxy Configuration Manual 2.8, section `The response line`, whose words are quoted below.
use Rattle.std.specs.Prelude.{◌≡◌, ℕ, List, Result, Ok, Err}
use Rattle.http_relay_wire.specs.declared.fault.WireFault.{WireFault}
use Rattle.http_relay_forward.specs.Answers.{answer_text}
use Rattle.http_relay_forward.specs.declared.answer.OwnAnswer.{OwnAnswer}
use Rattle.http_relay_forward.specs.declared.answer.OwnAnswer.TheVariants.{BadRequest, RequestTimeout, InternalServerError, BadGateway, ServiceUnavailable, GatewayTimeout}
use Rattle.http_relay_dial.specs.Dials.{Talk}
use Rattle.http_relay_exchange.specs.Exchanges.{wrote, FailsToWrite}
use Rattle.http_relay_serve.specs.declared.cause.Cause.{Cause}
use Rattle.http_relay_serve.specs.declared.cause.Cause.TheVariants.{HeadTooLarge, BadHead, BothLengths, HeadCutShort, BodyCutShort, BadChunk, HeadTimedOut, HeadMemory, RequestMemory, RequestRefused, NoSuchServer, UnknownServer, OpenRefused, HeadNotTaken, BodyNotTaken, NoResponse, ResponseBroken, NoBackend, NoServer, NotServing, QueueOver, NotDialled, ResponseTimedOut}

-- the answer for each cause
abbrev pub answer_of : Cause → OwnAnswer
-- 400 `for an invalid or too large request`
-- fields larger than the server wishes to process: RFC 9110, section 5.4
answer_of HeadTooLarge = BadRequest
-- a request line or a field line that isn't one: RFC 9112, sections 3 and 5; a body whose end isn't told well: section 6.3
answer_of BadHead = BadRequest
-- a length beside a coding, or two lengths: RFC 9112, section 6.3
answer_of BothLengths = BadRequest
-- an incomplete request: RFC 9112, section 8
answer_of HeadCutShort = BadRequest
-- fewer bytes than its length says, or no last chunk: RFC 9112, section 8
answer_of BodyCutShort = BadRequest
-- what isn't made of chunks as RFC 9112, section 7.1 has them, or is beyond our limits
answer_of BadChunk = BadRequest
-- 408 `when the request timeout strikes before the request is complete`; our own: in the head alone
answer_of HeadTimedOut = RequestTimeout
-- 500 `an unrecoverable internal error, such as a memory allocation failure`
answer_of HeadMemory = InternalServerError
answer_of RequestMemory = InternalServerError
answer_of (RequestRefused refused) = InternalServerError
answer_of NoSuchServer = InternalServerError
answer_of UnknownServer = InternalServerError
answer_of (OpenRefused refused) = InternalServerError
-- 502 `when the server returns an empty, invalid or incomplete response`; our own: also where it doesn't take the request
answer_of (HeadNotTaken fault) = BadGateway
answer_of (BodyNotTaken fault) = BadGateway
answer_of NoResponse = BadGateway
answer_of ResponseBroken = BadGateway
-- 503 `when no server was available to handle the request`
-- no `use_backend` rule holds, and there is no `default_backend`: HAProxy Configuration Manual 2.8, `default_backend`
answer_of NoBackend = ServiceUnavailable
answer_of NoServer = ServiceUnavailable
answer_of NotServing = ServiceUnavailable
-- HAProxy Configuration Manual 2.8, `timeout queue`
answer_of QueueOver = ServiceUnavailable
answer_of (NotDialled fault) = ServiceUnavailable
-- 504 `when the response timeout strikes before the server responds`
answer_of ResponseTimedOut = GatewayTimeout

-- the bytes that the client gets for the cause
abbrev pub cause_text : Cause → List ℕ
cause_text cause = answer_text (answer_of cause)

-- the client gets the bytes for the cause, or a beginning of them and its connection has failed once more
abbrev pub AnswersBy : Cause → Talk → Talk → Result (Unit {0}) WireFault → Type 0
AnswersBy cause old new (Ok value) = new ≡ wrote old (cause_text cause)
AnswersBy cause old new (Err fault) = FailsToWrite (cause_text cause) fault old new
