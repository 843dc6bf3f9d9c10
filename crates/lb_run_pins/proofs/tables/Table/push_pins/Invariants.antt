use Rattle.std.proofs.Common.{◌≡◌, ◌++◌, map, take}
use Rattle.dual_cert_text.specs.Spellings.{text_of_lines}
use Rattle.pin_file.specs.Spellings.{pin_line}
use Rattle.pin_file_return.specs.Saves.{saved_pin}
use Rattle.lb_run_pins.proofs.tables.Table.push_pins.Given as goal

-- the lines of the pins so far
abbrev pub invariant-loop-number : goal.invariant-loop-number
invariant-loop-number g l =
    l.text.items ≡ l.fn.text.items ++ text_of_lines (map (λ p. pin_line (saved_pin l.self.backend.servers l.fn.now p)) (take l.number l.self.pins))
