-- One request and its response: RFC 9112, section 6 (bodies), and RFC 9110, section 10.1.1 (`100 Continue`). Our own: the response
-- is read only after the whole request was sent.
use Rattle.std.specs.Prelude.{◌≡◌, ◌≤◌, ℕ, true, List, length, take, Option, Result, Ok, Err, cond}
use Rattle.std.specs.Io.KnownBytes.{append_known}
use Rattle.http_relay_wire.specs.Faults.{after_write_fault}
use Rattle.http_relay_wire.specs.Wires.{AppendsBeginning}
use Rattle.http_relay_wire.specs.declared.fault.WireFault.{WireFault}
use Rattle.http_relay_forward.specs.Answers.{continue_text}
use Rattle.http_relay_body.specs.Bodies.{IsBody}
use Rattle.http_relay_body.specs.Moves as body
use Rattle.http_relay_body.specs.Copies as response
use Rattle.http_relay_body.specs.declared.fault.BodyFault.{BodyFault}
use Rattle.http_relay_body.specs.declared.response.CopyFault.{CopyFault}
use Rattle.http_relay_dial.specs.Dials.{Talk}
use Rattle.http_relay_exchange.specs.Requests.{OutgoingView, opening}
use Rattle.http_relay_exchange.specs.declared.fault.ExchangeFault.{ExchangeFault}
use Rattle.http_relay_exchange.specs.declared.fault.ExchangeFault.TheVariants.{Send, Copy}
use Rattle.http_relay_exchange.specs.declared.fault.SendFault.{SendFault}
use Rattle.http_relay_exchange.specs.declared.fault.SendFault.TheVariants.{Continue, Head, Body}

-- the connection when these bytes were written to it
abbrev pub wrote : Talk → List ℕ → Talk
wrote talk bytes = record talk { written = append_known talk.written bytes }

-- the connection has taken so many bytes of the request's opening since it stood so
abbrev pub Began : OutgoingView → ℕ → Talk → Talk → Type 0
Began request taken before now = (taken ≤ length (opening request)) × (now ≡ wrote before (take taken (opening request)))

-- a write of these bytes failed: a beginning of them went out, and one failure is counted
abbrev pub FailsToWrite : List ℕ → WireFault → Talk → Talk → Type 0
FailsToWrite bytes fault old new =
    (written : Option (List ℕ)) × AppendsBeginning old.written written bytes
    × (new ≡ record old { written = written; faults = after_write_fault fault old.faults })

-- the client's connection when it was told to go on, if it waits for that
abbrev pub invited : OutgoingView → Talk → Talk
invited request client = cond request.expects_continue (wrote client continue_text) client

-- a client that waits for it is told to go on
abbrev pub Invites : OutgoingView → Talk → Talk → Result (Unit {0}) WireFault → Type 0
Invites request old new (Ok value) = new ≡ invited request old
Invites request old new (Err fault) = (request.expects_continue ≡ true) × FailsToWrite continue_text fault old new

-- The body is sent: a body of the head's kind is taken from what was read behind the head and then from the client, and written to
-- the server; or the answer says why not
pub record SendsBody (request : OutgoingView) (client after : Talk) (server sent : Talk) (answer : Result (Unit {0}) BodyFault) : Type 0 where
  pub left : List ℕ
  pub moved : body.Moved (λ _ text. IsBody request.kind text) request.behind left client.reading after.reading server.written sent.written answer
  pub client_faults : after.faults ≡ body.client_faults answer client.faults
  pub server_faults : sent.faults ≡ body.server_faults answer server.faults
  pub client_written : after.written ≡ client.written
  pub server_reading : sent.reading ≡ server.reading

-- the request is sent, first the head and then the body, and before them the client is told to go on if it waits for that; or
-- the answer says what failed
abbrev pub Sent : OutgoingView → Talk → Talk → Talk → Talk → Result (Unit {0}) SendFault → Type 0
Sent request client after server sent (Ok value) = SendsBody request (invited request client) after (wrote server request.head) sent (Ok value)
Sent request client after server sent (Err (Continue fault)) = Invites request client after (Err fault) × (sent ≡ server)
Sent request client after server sent (Err (Head fault)) = (after ≡ invited request client) × FailsToWrite request.head fault server sent
Sent request client after server sent (Err (Body fault)) = SendsBody request (invited request client) after (wrote server request.head) sent (Err fault)

-- the response is copied: all that the server sent until it ended; or the answer says why not
pub record CopiesBack (client after : Talk) (server drained : Talk) (answer : Result ℕ CopyFault) : Type 0 where
  pub copied : response.Copied server.reading drained.reading client.written after.written answer
  pub client_faults : after.faults ≡ response.client_faults answer client.faults
  pub server_faults : drained.faults ≡ response.server_faults answer server.faults
  pub client_reading : after.reading ≡ client.reading
  pub server_written : drained.written ≡ server.written

-- the request was sent, and then the response was copied with this answer
abbrev pub SentAndCopied : OutgoingView → Talk → Talk → Talk → Talk → Result ℕ CopyFault → Type 0
SentAndCopied request client after server copied answer =
    (between : Talk) × (sent : Talk) × Sent request client between server sent (Ok tt) × CopiesBack between after sent copied answer

-- what an exchange did to the client's connection and to the server's
abbrev pub Exchanged : OutgoingView → Talk → Talk → Talk → Talk → Result ℕ ExchangeFault → Type 0
Exchanged request client after server done (Ok count) = SentAndCopied request client after server done (Ok count)
Exchanged request client after server done (Err (Send fault)) = Sent request client after server done (Err fault)
Exchanged request client after server done (Err (Copy fault)) = SentAndCopied request client after server done (Err fault)
