use Rattle.std.proofs.Common.{◌<◌, length}
use Rattle.http_relay_dial.specs.Dials.{Talk, talk_of}
use Rattle.http_relay_talk.specs.Openings.{Passes}
use Rattle.http_relay_talk.specs.Shares.{Share, records}
use Rattle.http_relay_talk.specs.Visits.{Stands}
use Rattle.http_relay_talk.proofs.Passing.{queue_left}
use Rattle.http_relay_talk.proofs.visiting.leave_queue.Given as goal

-- the steps so far passed
abbrev pub invariant-loop-step : goal.invariant-loop-step
invariant-loop-step g l = record {
  room : 0 < length l.room;
  passes : (own : Share) (before : Talk)
      → Stands g.P.Port.server_of (talk_of g.D.Connection.Wire.written g.D.Connection.Wire.reading g.D.Connection.Wire.faults) l.fn.target l.fn.request own before
      (talk_of g.C.Wire.written g.C.Wire.reading g.C.Wire.faults l.fn.client) l.fn.begun
      → Passes g.P.Port.server_of (talk_of g.D.Connection.Wire.written g.D.Connection.Wire.reading g.D.Connection.Wire.faults) l.fn.target l.fn.request own before
      (talk_of g.C.Wire.written g.C.Wire.reading g.C.Wire.faults l.client)
      (records g.P.Port.entries g.P.Port.refusals g.D.Dialer.dials g.D.Dialer.talks g.D.Dialer.failures l.fn.port (g.K.Clock.told l.fn.clock) l.fn.dialer)
      (records g.P.Port.entries g.P.Port.refusals g.D.Dialer.dials g.D.Dialer.talks g.D.Dialer.failures l.port (g.K.Clock.told l.clock) l.dialer)
      (g.K.Clock.pauses l.fn.clock) (g.K.Clock.pauses l.clock) l.step;
}

abbrev pub decreases-loop-step : goal.decreases-loop-step
decreases-loop-step g l = queue_left l.fn.target.queue l.step
