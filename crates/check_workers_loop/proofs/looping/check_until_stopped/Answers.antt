use Rattle.std.proofs.Common.{[], refl, ◌∙◌}
use Rattle.check_workers_loop.proofs.Rounds.{one_more}
use Rattle.check_workers_loop.proofs.looping.check_until_stopped.Goals as goal

pub loop-init : goal.loop-init
loop-init g c = record { taken = ([], refl); pauses = refl }

pub returns-then-is_stopped-clause-work : goal.returns-then-is_stopped-clause-work
returns-then-is_stopped-clause-work g c = one_more c.loop.invariant.taken c.check_once-round.result c.check_once-round.ensures.work

pub returns-then-is_stopped-clause-pauses : goal.returns-then-is_stopped-clause-pauses
returns-then-is_stopped-clause-pauses g c = c.check_once-round.ensures.pauses ∙ c.loop.invariant.pauses

pub loop-preserved : goal.loop-preserved
loop-preserved g c = record {
  taken = one_more c.loop.invariant.taken c.check_once-round.result c.check_once-round.ensures.work;
  pauses = c.check_once-round.ensures.pauses ∙ c.loop.invariant.pauses;
}
