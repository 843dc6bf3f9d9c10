use Rattle.std.proofs.Common.{◌≡◌, ◌++◌, ℕ, length}
use Rattle.std.specs.Vec.{vec_len}
use Rattle.lb_run_desks.specs.NewDesks.{AreNamed, numbers}
use Rattle.lb_run_desks.proofs.naming.named_desks.Given as goal

abbrev pub invariant-loop-new : goal.invariant-loop-new
invariant-loop-new g l =
    (goal.iterator-loop-new g).can_next l.new-iterator ×
    (goal.iterator-loop-new g).is_finite l.new-iterator ×
    (l.yielded ++ l.new-iterator.rest.items ≡ l.fn.news.items) ×
    (vec_len l.desks ≡ length l.yielded) ×
    (l.desks.items ≡ numbers l.yielded)
