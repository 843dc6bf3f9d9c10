use Rattle.std.proofs.Common.{◌<◌, ◌≤◌, length}
use Rattle.http_relay_dial.specs.Dials.{Talk, talk_of}
use Rattle.http_relay_talk.specs.Openings.{HasLeftQueue, Passes, reads_left}
use Rattle.http_relay_talk.specs.Shares.{Share, records}
use Rattle.http_relay_talk.specs.Visits.{IsUnderway}
use Rattle.http_relay_talk.specs.declared.underway.Step.TheVariants.{Waits}
use Rattle.http_relay_talk.proofs.visiting.copy_through.Given as goal

-- the steps so far passed, and the visit is out of the queue
abbrev pub invariant-loop-answer : goal.invariant-loop-answer
invariant-loop-answer g l = record {
  room : 0 < length l.room;
  left : HasLeftQueue (Waits l.underway);
  fewer : reads_left g.D.Connection.Wire.reading (Waits l.underway) ≤ reads_left g.D.Connection.Wire.reading (Waits l.fn.underway);
  passes : (own : Share) (before : Talk)
      → IsUnderway g.P.Port.server_of (talk_of g.D.Connection.Wire.written g.D.Connection.Wire.reading g.D.Connection.Wire.faults) l.fn.target l.fn.request own before
      (talk_of g.C.Wire.written g.C.Wire.reading g.C.Wire.faults l.fn.client) l.fn.underway
      → Passes g.P.Port.server_of (talk_of g.D.Connection.Wire.written g.D.Connection.Wire.reading g.D.Connection.Wire.faults) l.fn.target l.fn.request own before
      (talk_of g.C.Wire.written g.C.Wire.reading g.C.Wire.faults l.client)
      (records g.P.Port.entries g.P.Port.refusals g.D.Dialer.dials g.D.Dialer.talks g.D.Dialer.failures l.fn.port (g.K.Clock.told l.fn.clock) l.fn.dialer)
      (records g.P.Port.entries g.P.Port.refusals g.D.Dialer.dials g.D.Dialer.talks g.D.Dialer.failures l.port (g.K.Clock.told l.clock) l.dialer)
      (g.K.Clock.pauses l.fn.clock) (g.K.Clock.pauses l.clock) (Waits l.underway);
}

abbrev pub decreases-loop-answer : goal.decreases-loop-answer
decreases-loop-answer g l = reads_left g.D.Connection.Wire.reading (Waits l.underway)
