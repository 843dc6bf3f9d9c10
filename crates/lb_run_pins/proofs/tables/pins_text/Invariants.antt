use Rattle.std.proofs.Common.{◌≡◌, ◌++◌, take}
use Rattle.std.specs.List.{flat_map}
use Rattle.dual_cert_text.specs.Spellings.{text_of_lines}
use Rattle.pin_file.specs.Spellings.{backend_lines}
use Rattle.lb_run_pins.specs.Saved.{pins_at}
use Rattle.lb_run_pins.proofs.tables.pins_text.Given as goal

-- after the first line, the lines of the tables so far
abbrev pub invariant-loop-table : goal.invariant-loop-table
invariant-loop-table g l =
    l.text.items ≡ l.initial.text.items ++ text_of_lines (flat_map (λ t. backend_lines (pins_at l.now t)) (take l.table-index l.tables))
