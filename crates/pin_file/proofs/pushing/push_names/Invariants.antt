use Rattle.std.proofs.Common.{◌≡◌, ◌++◌, ◌∷◌, take}
use Rattle.std.specs.List.{join_with_byte}
use Rattle.pin_file.proofs.pushing.push_names.Given as goal

abbrev pub invariant-loop-name : goal.invariant-loop-name
invariant-loop-name l = l.text.items ≡ l.fn.text.items ++ join_with_byte 44 (l.fn.first ∷ take l.name-index l.more)
