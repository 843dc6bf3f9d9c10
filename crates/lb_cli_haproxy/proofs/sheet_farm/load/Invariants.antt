use Rattle.std.proofs.Common.{◌≡◌, take, count_by}
use Rattle.pin_set.specs.Assignments.{is_at}
use Rattle.lb_cli_haproxy.proofs.sheet_farm.load.Given as goal

abbrev pub invariant-loop-place : goal.invariant-loop-place
invariant-loop-place l = l.count ≡ count_by (is_at l.at) (take l.place-index l.places)
