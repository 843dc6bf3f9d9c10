use Rattle.std.proofs.Common.{◌≡◌, ◌++◌, map, take}
use Rattle.dual_cert_text.specs.Spellings.{text_of_lines}
use Rattle.pin_file.specs.Spellings.{pin_line}
use Rattle.pin_file.proofs.pushing.push_pins.Given as goal

abbrev pub invariant-loop-pin : goal.invariant-loop-pin
invariant-loop-pin l = l.text.items ≡ l.fn.text.items ++ text_of_lines (map (λ p. pin_line p) (take l.pin-index l.pins))
