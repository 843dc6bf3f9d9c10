-- The stages of an exchange, by the connections between them.
use Rattle.std.proofs.Common.{◌≡◌, ℕ, List, [], take, drop, take-append-drop, append-nil, Result, Ok, Err, IsErrAnd, inl, refl, sym, subst, ◌∙◌, ap}
use Rattle.std.specs.Io.KnownBytes.{append_known}
use Rattle.http_relay_wire.specs.Wires.{AppendsBeginning}
use Rattle.http_relay_wire.proofs.KnownBytes.{prepend_nothing}
use Rattle.http_relay_body.specs.Bodies.{IsBody}
use Rattle.http_relay_body.specs.Moves as body
use Rattle.http_relay_body.specs.declared.fault.BodyFault.{BodyFault}
use Rattle.http_relay_body.specs.declared.fault.BodyFault.TheVariants.{Truncated, Client, Server, BadChunk}
use Rattle.http_relay_body.specs.declared.front.BodyFront.{BodyFront}
use Rattle.http_relay_body.proofs.Fronts.{front_moved}
use Rattle.http_relay_dial.specs.Dials.{Talk}
use Rattle.http_relay_exchange.specs.Requests.{OutgoingView}
use Rattle.http_relay_exchange.specs.declared.fault.SendFault.{SendFault}
use Rattle.http_relay_exchange.specs.declared.fault.SendFault.TheVariants.{Continue, Head, Body}
use Rattle.http_relay_exchange.specs.Exchanges.{SendsBody, Sent, invited, wrote}
use Rattle.http_relay_exchange.specs.Headings.{SendsHead}

-- the head or the front of the body couldn't be written
pub head_failed : (request : OutgoingView) (client after server sent : Talk) (fault : SendFault)
    → after ≡ invited request client → SendsHead request server sent (Err fault) → Sent request client after server sent (Err fault)
head_failed request client after server sent (Continue fault) invited_is (len, why) = absurd why
head_failed request client after server sent (Head fault) invited_is (len, why) = (invited_is, why)
head_failed request client after server sent (Body Truncated) invited_is (len, why) = absurd why
head_failed request client after server sent (Body BadChunk) invited_is (len, why) = absurd why
head_failed request client after server sent (Body (Client fault)) invited_is (len, why) = absurd why
head_failed request client after server sent (Body (Server fault)) invited_is (len, (written, beginning, is)) =
    let text = take len request.behind in
    let rest = drop len request.behind in
    let begun : AppendsBeginning (append_known server.written request.head) sent.written text =
    subst (λ w. AppendsBeginning (append_known server.written request.head) w text) (sym (ap (λ (t : Talk). t.written) is)) beginning in
    let taken : body.Taken request.behind rest (invited request client).reading.unread after.reading.unread text =
    record {
      more = [];
      read = ap (λ (t : Talk). t.reading.unread) (sym invited_is) ∙ sym (prepend_nothing after.reading.unread);
      parted = append-nil request.behind ∙ sym (take-append-drop len request.behind);
      in_turn = inl refl;
    } in
    record {
      left = rest;
      moved = record { text = text; taken = taken; answers = tt; sent = tt; beginning = begun };
      client_faults = ap (λ (t : Talk). t.faults) invited_is;
      server_faults = ap (λ (t : Talk). t.faults) is;
      client_written = ap (λ (t : Talk). t.written) invited_is;
      server_reading = ap (λ (t : Talk). t.reading) is;
    }

-- a question mark hands that on
pub head_handed : (request : OutgoingView) (client after server sent : Talk) (answer : Result (Unit {0}) SendFault) (fault : SendFault)
    → IsErrAnd answer (λ told. told ≡ fault) → after ≡ invited request client → SendsHead request server sent (Err fault) → Sent request client after server sent answer
head_handed request client after server sent (Ok value) fault none invited_is why = absurd none
head_handed request client after server sent (Err told) fault same invited_is why =
    subst (λ cause. Sent request client after server sent (Err cause)) (sym same) (head_failed request client after server sent fault invited_is why)

-- the rest of a body whose front went out with the head
pub sends_rest : (request : OutgoingView) (front : BodyFront) (behind : List ℕ) (client between after : Talk) (server headed sent : Talk)
    (answer : Result (Unit {0}) BodyFault) → behind ≡ drop front.len request.behind → between ≡ invited request client → SendsHead request server headed (Ok front)
    → ((left : List ℕ) × body.Moved (λ _ text. IsBody front.rest text) behind left between.reading after.reading headed.written sent.written answer)
    → after.faults ≡ body.client_faults answer between.faults → sent.faults ≡ body.server_faults answer headed.faults
    → after.written ≡ between.written → sent.reading ≡ headed.reading
    → SendsBody request (invited request client) after (wrote server request.head) sent answer
sends_rest request front behind client between after server headed sent answer behind_is between_is (within, is_front, headed_is) moved client_faults server_faults client_written server_reading =
    let of_behind = subst (λ b. body.Moved (λ _ text. IsBody front.rest text) b moved.0 between.reading after.reading headed.written sent.written answer) behind_is moved.1 in
    let joined = front_moved request.kind front.rest (take front.len request.behind) (drop front.len request.behind) moved.0 between.reading after.reading
    (append_known server.written request.head) headed.written sent.written answer is_front (ap (λ (t : Talk). t.written) headed_is) of_behind in
    let whole = subst (λ b. body.Moved (λ _ text. IsBody request.kind text) b moved.0 between.reading after.reading (append_known server.written request.head) sent.written answer)
    (take-append-drop front.len request.behind) joined in
    record {
      left = moved.0;
      moved = subst (λ (t : Talk). body.Moved (λ _ text. IsBody request.kind text) request.behind moved.0 t.reading after.reading (append_known server.written request.head) sent.written answer) between_is whole;
      client_faults = client_faults ∙ ap (λ (t : Talk). body.client_faults answer t.faults) between_is;
      server_faults = server_faults ∙ ap (λ (t : Talk). body.server_faults answer t.faults) headed_is;
      client_written = client_written ∙ ap (λ (t : Talk). t.written) between_is;
      server_reading = server_reading ∙ ap (λ (t : Talk). t.reading) headed_is;
    }
