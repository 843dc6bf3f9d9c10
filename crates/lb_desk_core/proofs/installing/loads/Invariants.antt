use Rattle.std.proofs.Common.{◌≡◌, ℕ, ◌<◌, length, get_or, take}
use Rattle.pin_set.specs.Rows.{rows_load}
use Rattle.lb_desk_core.proofs.installing.loads.Given as goal

abbrev pub invariant-loop-row : goal.invariant-loop-row
invariant-loop-row l =
    (length l.loads ≡ 128) × ((s : ℕ) → s < 128 → get_or l.loads s 0 ≡ rows_load (take l.row-index l.rows) s)
