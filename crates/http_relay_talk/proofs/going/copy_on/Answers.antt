use Rattle.std.proofs.Common.{◌≡◌, ℕ, take, Ok, Err, refl, sym, subst, ◌∙◌, arith}
use Rattle.std.specs.Io.KnownBytes.{prepend_known}
use Rattle.http_relay_dial.specs.Dials.{talk_of}
use Rattle.http_relay_talk.specs.Shares.{joined, records}
use Rattle.http_relay_talk.specs.declared.underway.Step.TheVariants.{Done}
use Rattle.http_relay_talk.proofs.Pieces.{none_came, of_client, one_piece, read_failed, read_last, went_on, write_failed}
use Rattle.http_relay_talk.proofs.Visits.{lesson_adds, lesson_share, steps_after}
use Rattle.http_relay_talk.proofs.going.copy_on.Goals as goal

-- the server has ended
pub returns-in-Ok-eq0-clause-steps : goal.returns-in-Ok-eq0-clause-steps
returns-in-Ok-eq0-clause-steps g c target request own before moments h =
    let client = talk_of g.C.Wire.written g.C.Wire.reading g.C.Wire.faults c.args.client.now in
    let seen = talk_of g.D.Connection.Wire.written g.D.Connection.Wire.reading g.D.Connection.Wire.faults in
    let later = seen c.read_piece.new.server in
    let e = c.in-Ok-eq0.ensures in
    let read = subst (λ (n : ℕ). (seen c.args.held.connection).reading.unread ≡ prepend_known (take n c.read_piece.new.room) later.reading.unread)
    c.in-Ok-eq0.field-0-test e.read in
    c.finish.ensures target request own before client moments
    (read_last g.P.Port.server_of seen target request own before client later c.args.held (Ok c.args.held.copied) h
    (none_came c.args.held.copied client (seen c.args.held.connection) later (omega arith) read e.server e.server_written) (e.ended c.in-Ok-eq0.field-0-test))

-- a read of the server failed
pub returns-in-Err-clause-steps : goal.returns-in-Err-clause-steps
returns-in-Err-clause-steps g c target request own before moments h =
    let client = talk_of g.C.Wire.written g.C.Wire.reading g.C.Wire.faults c.args.client.now in
    let seen = talk_of g.D.Connection.Wire.written g.D.Connection.Wire.reading g.D.Connection.Wire.faults in
    let later = seen c.read_piece.new.server in
    let e = c.in-Err.ensures in
    c.finish-in-Err.ensures target request own before client moments
    (read_last g.P.Port.server_of seen target request own before client later c.args.held (Err c.in-Err.fault) h
    (read_failed c.args.held.copied client (seen c.args.held.connection) later c.in-Err.fault e.fault e.read e.server e.server_written) tt)

-- a piece was read, learned from, and written
pub returns-in-Ok-write_piece-clause-steps : goal.returns-in-Ok-write_piece-clause-steps
returns-in-Ok-write_piece-clause-steps g c target request own before moments h =
    let at = records g.P.Port.entries g.P.Port.refusals g.D.Dialer.dials g.D.Dialer.talks g.D.Dialer.failures in
    let client = talk_of g.C.Wire.written g.C.Wire.reading g.C.Wire.faults c.args.client.now in
    let now = talk_of g.C.Wire.written g.C.Wire.reading g.C.Wire.faults c.write_piece.new.client in
    let seen = talk_of g.D.Connection.Wire.written g.D.Connection.Wire.reading g.D.Connection.Wire.faults in
    let server = seen c.args.held.connection in
    let later = seen c.read_piece.new.server in
    let count = c.in-Ok.count in
    let room = c.read_piece.new.room in
    let piece = take count room in
    let e = c.in-Ok.ensures in
    let w = c.in-Ok-write_piece.ensures in
    let copied = c.in-Ok-write_piece.copied in
    let learning = c.learn-learning.result in
    let x = c.learn-learning.ensures target.lesson target.server h.copies.1.text h.taught h.copies.1.learned in
    let copies = one_piece c.args.held.copied client now server later piece (Ok copied) e.read w.tells w.sent w.client e.server w.client_reading e.server_written in (
      lesson_share x.0,
      lesson_adds x.0 (at c.args.port.now moments c.args.dialer.now) (at c.learn-learning.new.port moments c.args.dialer.now) x.1 refl refl refl refl,
      refl,
      went_on g.P.Port.server_of seen target request own before client now later c.args.held learning copied x.0 piece h copies e.read x.2,
    )

-- a piece was read and learned from, and didn't go out
pub returns-clause-steps : goal.returns-clause-steps
returns-clause-steps g c target request own before moments h =
    let at = records g.P.Port.entries g.P.Port.refusals g.D.Dialer.dials g.D.Dialer.talks g.D.Dialer.failures in
    let client = talk_of g.C.Wire.written g.C.Wire.reading g.C.Wire.faults c.args.client.now in
    let now = talk_of g.C.Wire.written g.C.Wire.reading g.C.Wire.faults c.write_piece.new.client in
    let seen = talk_of g.D.Connection.Wire.written g.D.Connection.Wire.reading g.D.Connection.Wire.faults in
    let server = seen c.args.held.connection in
    let later = seen c.read_piece.new.server in
    let count = c.in-Ok.count in
    let room = c.read_piece.new.room in
    let piece = take count room in
    let e = c.in-Ok.ensures in
    let w = c.in-Err-write_piece.ensures in
    let fault = c.in-Err-write_piece.fault in
    let learning = c.learn-learning.result in
    let x = c.learn-learning.ensures target.lesson target.server h.copies.1.text h.taught h.copies.1.learned in
    let copies = one_piece c.args.held.copied client now server later piece (Err fault) e.read w.tells w.sent w.client
    (e.server ∙ sym (of_client fault server.faults w.fault)) w.client_reading e.server_written in
    let old = at c.args.port.now moments c.args.dialer.now in
    let mid = at c.learn-learning.new.port moments c.args.dialer.now in
    let new = at c.finish-in-Err-write_piece.new.port moments c.finish-in-Err-write_piece.new.dialer in
    steps_after g.P.Port.server_of seen target request own x.0 before now old mid new (Done c.finish-in-Err-write_piece.result)
    (lesson_adds x.0 old mid x.1 refl refl refl refl)
    (c.finish-in-Err-write_piece.ensures target request (joined own (lesson_share x.0)) before now moments
    (write_failed g.P.Port.server_of seen target request own before client now later c.args.held learning fault x.0 piece h copies e.read x.2))
