use Rattle.std.proofs.Common.{◌≡◌, ◌++◌, length, map}
use Rattle.lb_desk_model.specs.Sets.{set_pin}
use Rattle.pin_file_return.specs.Stays.{pins_in}
use Rattle.pin_file_return.proofs.kept.Kept.into_sets.Given as goal

-- the pins that went out, and those that are left, are all of them
abbrev pub invariant-loop-name : goal.invariant-loop-name
invariant-loop-name g l = map (λ s. set_pin s s.moment) l.sets.items ++ pins_in l.stays.entries ≡ l.fn.self

abbrev pub decreases-loop-name : goal.decreases-loop-name
decreases-loop-name g l = length l.stays.entries
