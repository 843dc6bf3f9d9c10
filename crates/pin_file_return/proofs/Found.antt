-- What is known of a backend that was found in a file.
use Rattle.std.proofs.Common.{◌≡◌, ℕ, Bool, true, false, cond, Some, List, [], ◌∷◌}
use Rattle.std.specs.Prelude.{All, find}
use Rattle.std.proofs.lemmas.List.Elements.{All-head, All-tail}
use Rattle.std.proofs.lemmas.Option.{none-some, same_Some}
use Rattle.std.proofs.Common.{subst}
use Rattle.pin_file.specs.declared.backend_pins.BackendPins.{BackendPins}
use Rattle.pin_file.specs.Files.{IsBackendPins, IsFilePin}
use Rattle.pin_file.specs.Texts.{has_name}

pub found_lawful : (name : List ℕ) (file : List BackendPins) (b : BackendPins) → All IsBackendPins file → find (has_name name) file ≡ Some b
    → All IsFilePin b.pins
found_lawful name [] b all is = absurd (none-some b is)
found_lawful name (c ∷ file) b all is = by (has_name name c) is (found_lawful name file b (All-tail IsBackendPins c file all))
  where
    by : (t : Bool) → cond t (Some c) (find (has_name name) file) ≡ Some b → (find (has_name name) file ≡ Some b → All IsFilePin b.pins) → All IsFilePin b.pins
    by true e rest = subst (λ (d : BackendPins). All IsFilePin d.pins) (same_Some c b e) (All-head IsBackendPins c file all).pins
    by false e rest = rest e
