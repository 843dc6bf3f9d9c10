use Rattle.check_workers_probe.proofs.Courses.{rests}
use Rattle.check_workers_probe.proofs.probing.Probing.go_on.Goals as goal

pub returns-then-is_none-clause-goes_on : goal.returns-then-is_none-clause-goes_on
returns-then-is_none-clause-goes_on g c = rests _ _ _
