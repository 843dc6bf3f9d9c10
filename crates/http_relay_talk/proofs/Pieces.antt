-- A piece of a response: read, learned from, and written.
use Rattle.std.proofs.Common.{◌≡◌, ℕ, ◌^◌, ◌<◌, true, List, [], ◌++◌, Result, Ok, Err, OnOk, refl, sym, arith}
use Rattle.std.specs.Io.KnownBytes.{IsAtEnd, prepend_known}
use Rattle.http_relay_body.proofs.Moves.{append_nothing}
use Rattle.http_relay_body.specs.Copies.{WentOut, server_faults, client_faults}
use Rattle.http_relay_body.specs.Copying.{IsOfClient, IsOfServer, TellsOn}
use Rattle.http_relay_body.specs.declared.response.CopyFault.{CopyFault}
use Rattle.http_relay_body.specs.declared.response.CopyFault.TheVariants.{NoResponse, CutShort, Client}
use Rattle.http_relay_dial.specs.Dials.{Talk}
use Rattle.http_relay_exchange.specs.Exchanges.{CopiesBack}
use Rattle.http_relay_exchange.specs.Requests.{OutgoingView}
use Rattle.http_relay_wire.specs.declared.fault.FaultCounts.{FaultCounts}
use Rattle.http_relay_talk.proofs.Copies.{copies_twice, copies_whole}
use Rattle.http_relay_talk.proofs.Lessons.{learns_at_end, learns_more, reads_more}
use Rattle.http_relay_talk.proofs.Visits.{lesson_share, with_copies, with_lesson}
use Rattle.http_relay_talk.specs.Lessons.{Learns, Taught, Teaches, both}
use Rattle.http_relay_talk.specs.Shares.{Share, joined}
use Rattle.http_relay_talk.specs.Visits.{CopiesFrom, Holds, IsCopying, IsLearning}
use Rattle.http_relay_talk.specs.declared.learning.Learning.{Learning}
use Rattle.http_relay_talk.specs.declared.target.Target.{Target}
use Rattle.http_relay_talk.specs.declared.underway.Held.{Held}

-- a piece that went out, or not, with this answer
pub one_piece : (before : ℕ) (client now server later : Talk) (piece : List ℕ) (answer : Result ℕ CopyFault)
    → server.reading.unread ≡ prepend_known piece later.reading.unread → TellsOn before piece answer → WentOut client.written now.written piece answer
    → now.faults ≡ client_faults answer client.faults → later.faults ≡ server_faults answer server.faults
    → now.reading ≡ client.reading → later.written ≡ server.written → CopiesFrom before client now server later answer
one_piece before client now server later piece answer read tells sent client_faults server_faults client_reading server_written = record {
  copied = record { text = piece; read = read; tells = tells; sent = sent };
  client_faults = client_faults;
  server_faults = server_faults;
  client_reading = client_reading;
  server_written = server_written;
}

-- the server has ended
pub none_came : (before : ℕ) (client server later : Talk) → before < 2 ^ 64
    → server.reading.unread ≡ prepend_known [] later.reading.unread → later.faults ≡ server.faults → later.written ≡ server.written
    → CopiesFrom before client client server later (Ok before)
none_came before client server later fits read faults written =
    one_piece before client client server later [] (Ok before) read (grind (arith, fits)) (sym (append_nothing client.written)) refl faults refl written

-- the server failed
pub read_failed : (before : ℕ) (client server later : Talk) (fault : CopyFault) → IsOfServer before fault
    → server.reading.unread ≡ prepend_known [] later.reading.unread → later.faults ≡ server_faults (Err fault) server.faults
    → later.written ≡ server.written → CopiesFrom before client client server later (Err fault)
read_failed before client server later (NoResponse fault) of read faults written =
    one_piece before client client server later [] (Err (NoResponse fault)) read (grind (arith, of)) (sym (append_nothing client.written)) refl faults refl written
read_failed before client server later (CutShort fault) of read faults written =
    one_piece before client client server later [] (Err (CutShort fault)) read (grind (arith, of)) (sym (append_nothing client.written)) refl faults refl written
read_failed before client server later (Client fault) of read faults written = absurd of

-- a fault of the client's wire is none of the server's
pub of_client : (fault : CopyFault) (counts : FaultCounts) → IsOfClient fault → server_faults (Err fault) counts ≡ counts
of_client (NoResponse fault) counts of = absurd of
of_client (CutShort fault) counts of = absurd of
of_client (Client fault) counts of = refl

-- ---- a visit after a piece

-- the last piece was read, and nothing came with it
pub read_last : {S W : Type 0} (server_of : S → ℕ) (seen : W → Talk) (target : Target) (request : OutgoingView) (own : Share) (from client later : Talk)
    (held : Held S W) (answer : Result ℕ CopyFault) → IsCopying server_of seen target request own from client held
    → CopiesFrom held.copied client client (seen held.connection) later answer
    → OnOk answer (IsAtEnd later.reading.unread × (later.reading.ended ≡ true))
    → Holds server_of target request own from client held.slot later (λ taught between now sent last. CopiesBack between now sent last answer
    × Teaches sent.reading last.reading (λ text. Learns target.lesson target.server text taught))
read_last server_of seen target request own from client later held answer h piece end =
    let connection = seen held.connection in
    let so_far = h.copies.1 in
    with_copies server_of target request own from client client held.slot connection later
    (λ taught between now sent connection. CopiesFrom 0 between now sent connection (Ok held.copied)
    × Teaches sent.reading connection.reading (λ text. IsLearning target.lesson target.server text held.learning taught))
    (λ taught between now sent last. CopiesBack between now sent last answer
    × Teaches sent.reading last.reading (λ text. Learns target.lesson target.server text taught)) h (
      copies_whole h.between client h.sent later answer (copies_twice 0 h.between client client h.sent connection later held.copied answer h.copies.0 piece) end,
      reads_more h.sent.reading connection.reading later.reading piece.copied.text
          (λ text. IsLearning target.lesson target.server text held.learning h.taught) (λ text. Learns target.lesson target.server text h.taught) so_far
          piece.copied.read
          (learns_more target.lesson target.server so_far.text piece.copied.text h.taught
          (learns_at_end target.lesson target.server so_far.text held.learning h.taught so_far.learned)),
    )

-- a piece was read and learned from, and then it didn't go out
pub write_failed : {S W : Type 0} (server_of : S → ℕ) (seen : W → Talk) (target : Target) (request : OutgoingView) (own : Share) (from client now later : Talk)
    (held : Held S W) (learning : Learning) (fault : CopyFault) (taught : Taught) (piece : List ℕ)
    → (h : IsCopying server_of seen target request own from client held)
    → CopiesFrom held.copied client now (seen held.connection) later (Err fault)
    → (seen held.connection).reading.unread ≡ prepend_known piece later.reading.unread
    → IsLearning target.lesson target.server (h.copies.1.text ++ piece) learning (both h.taught taught)
    → Holds server_of target request (joined own (lesson_share taught)) from now held.slot later
    (λ taught between now sent last. CopiesBack between now sent last (Err fault)
    × Teaches sent.reading last.reading (λ text. Learns target.lesson target.server text taught))
write_failed server_of seen target request own from client now later held learning fault taught piece h copies read learns =
    let connection = seen held.connection in
    with_lesson server_of target request own from client now held.slot connection later
    (λ taught between now sent connection. CopiesFrom 0 between now sent connection (Ok held.copied)
    × Teaches sent.reading connection.reading (λ text. IsLearning target.lesson target.server text held.learning taught))
    (λ taught between now sent last. CopiesBack between now sent last (Err fault)
    × Teaches sent.reading last.reading (λ text. Learns target.lesson target.server text taught)) taught h (
      copies_whole h.between now h.sent later (Err fault)
          (copies_twice 0 h.between client now h.sent connection later held.copied (Err fault) h.copies.0 copies) tt,
      reads_more h.sent.reading connection.reading later.reading piece
          (λ text. IsLearning target.lesson target.server text held.learning h.taught)
          (λ text. Learns target.lesson target.server text (both h.taught taught)) h.copies.1 read
          (learns_at_end target.lesson target.server (h.copies.1.text ++ piece) learning (both h.taught taught) learns),
    )

-- a piece was read, learned from, and written
pub went_on : {S W : Type 0} (server_of : S → ℕ) (seen : W → Talk) (target : Target) (request : OutgoingView) (own : Share) (from client now later : Talk)
    (held : Held S W) (learning : Learning) (count : ℕ) (taught : Taught) (piece : List ℕ)
    → (h : IsCopying server_of seen target request own from client held)
    → CopiesFrom held.copied client now (seen held.connection) later (Ok count)
    → (seen held.connection).reading.unread ≡ prepend_known piece later.reading.unread
    → IsLearning target.lesson target.server (h.copies.1.text ++ piece) learning (both h.taught taught)
    → Holds server_of target request (joined own (lesson_share taught)) from now held.slot later
    (λ taught between now sent connection. CopiesFrom 0 between now sent connection (Ok count)
    × Teaches sent.reading connection.reading (λ text. IsLearning target.lesson target.server text learning taught))
went_on server_of seen target request own from client now later held learning count taught piece h copies read learns =
    let connection = seen held.connection in
    with_lesson server_of target request own from client now held.slot connection later
    (λ taught between now sent connection. CopiesFrom 0 between now sent connection (Ok held.copied)
    × Teaches sent.reading connection.reading (λ text. IsLearning target.lesson target.server text held.learning taught))
    (λ taught between now sent connection. CopiesFrom 0 between now sent connection (Ok count)
    × Teaches sent.reading connection.reading (λ text. IsLearning target.lesson target.server text learning taught)) taught h (
      copies_twice 0 h.between client now h.sent connection later held.copied (Ok count) h.copies.0 copies,
      reads_more h.sent.reading connection.reading later.reading piece
          (λ text. IsLearning target.lesson target.server text held.learning h.taught)
          (λ text. IsLearning target.lesson target.server text learning (both h.taught taught)) h.copies.1 read learns,
    )
