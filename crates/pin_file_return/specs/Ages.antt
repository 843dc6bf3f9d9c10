-- The ages of a file's pins.
use Rattle.std.specs.Prelude.{◌≡◌, ◌⊎◌, ℕ, ◌≤◌, List, All, Any}
use Rattle.pin_file.specs.declared.backend_pins.BackendPins.{BackendPins}

-- no pin's age is above this one, which is some pin's, or 0
pub record IsGreatestAge (file : List BackendPins) (age : ℕ) : Type 0 where
  pub above : All (λ b. All (λ p. p.age ≤ age) b.pins) file
  pub reached : (age ≡ 0) ⊎ Any (λ b. Any (λ p. p.age ≡ age) b.pins) file
