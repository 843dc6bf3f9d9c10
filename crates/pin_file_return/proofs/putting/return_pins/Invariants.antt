use Rattle.std.proofs.Common.{◌≡◌, ◌++◌, ◌≤◌, length}
use Rattle.pin_file_return.specs.Puts.{WereSet}
use Rattle.pin_file_return.proofs.putting.return_pins.Given as goal

-- the pins so far were set, and the others are left
abbrev pub invariant-loop-pin : goal.invariant-loop-pin
invariant-loop-pin g l =
    (l.yielded ++ l.pin-iterator.rest.items ≡ l.fn.pins.items) ×
    WereSet l.yielded l.pinned (g.P.Port.entries l.fn.port) (g.P.Port.entries l.port) × (l.pinned ≤ length l.yielded) ×
    (g.P.Port.refusals l.port ≡ g.P.Port.refusals l.fn.port)
