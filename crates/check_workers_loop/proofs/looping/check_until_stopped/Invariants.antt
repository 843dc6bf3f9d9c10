use Rattle.std.proofs.Common.{◌≡◌}
use Rattle.check_workers_loop.specs.Loops.{work}
use Rattle.check_workers_loop.proofs.Rounds.{IsRounds}
use Rattle.check_workers_loop.proofs.looping.check_until_stopped.Given as goal

-- the work so far is rounds
abbrev pub invariant-loop : goal.invariant-loop
invariant-loop g l = record {
  taken : IsRounds
      (work l.fn.checks (g.K.Clock.told l.fn.clock) (g.P.Probes.under_way l.fn.probes) (g.P.Probes.begun l.fn.probes) (g.P.Probes.ended l.fn.probes) (g.Q.Port.entries l.fn.port) (g.Q.Port.refusals l.fn.port) (g.F.Flips.told l.fn.flips))
      (work l.checks (g.K.Clock.told l.clock) (g.P.Probes.under_way l.probes) (g.P.Probes.begun l.probes) (g.P.Probes.ended l.probes) (g.Q.Port.entries l.port) (g.Q.Port.refusals l.port) (g.F.Flips.told l.flips));
  pauses : g.K.Clock.pauses l.clock ≡ g.K.Clock.pauses l.fn.clock;
}
