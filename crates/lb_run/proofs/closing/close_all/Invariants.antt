use Rattle.std.proofs.Common.{◌≡◌, ◌≤◌, ◌++◌, ℕ, List, length, take}
use Rattle.std.specs.Io.KnownBytes.{Appends}
use Rattle.lb_run.specs.Runs.{AllClosed}
use Rattle.lb_run.proofs.closing.close_all.Given as goal

-- the desks so far are closed, and their lines went out
abbrev pub invariant-loop-desk : goal.invariant-loop-desk
invariant-loop-desk g l =
    (goal.iterator-loop-desk g).can_next l.desk-iterator ×
    (goal.iterator-loop-desk g).is_finite l.desk-iterator ×
    (l.yielded ++ l.desk-iterator.rest.items ≡ l.fn.desks.items) ×
    (l.place ≡ length l.yielded) ×
    ((text : List ℕ) × AllClosed (take l.place l.fn.config.backends) text
    × Appends l.fn.out.contents l.out.contents text) ×
    (l.fn.out.failures ≤ l.out.failures)
