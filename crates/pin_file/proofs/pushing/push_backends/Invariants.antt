use Rattle.std.proofs.Common.{◌≡◌, ◌++◌, take}
use Rattle.std.specs.List.{flat_map}
use Rattle.dual_cert_text.specs.Spellings.{text_of_lines}
use Rattle.pin_file.specs.Spellings.{backend_lines}
use Rattle.pin_file.proofs.pushing.push_backends.Given as goal

abbrev pub invariant-loop-backend : goal.invariant-loop-backend
invariant-loop-backend l = l.text.items ≡ l.fn.text.items ++ text_of_lines (flat_map (λ b. backend_lines b) (take l.backend-index l.backends))
