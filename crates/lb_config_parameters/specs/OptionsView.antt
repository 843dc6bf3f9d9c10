-- What a line says of servers, as contracts see it.
use Rattle.std.specs.Prelude.{ℕ, ◌≤◌, Bool, Option}
use Rattle.std.specs.Option.{ForSome}
use Rattle.lb_types.specs.declared.limits.TheConstants.{MAX_PINS, MAX_WEIGHT}
use Rattle.rise_fall.specs.declared.health.TheConstants.{MAX_STREAK}

-- none is what isn't said
pub record OptionsView : Type 0 where
  pub is_checked : Bool
  pub is_backup : Bool
  pub is_disabled : Bool
  pub interval : Option ℕ
  pub rise : Option ℕ
  pub fall : Option ℕ
  pub weight : Option ℕ
  pub max_connections : Option ℕ
  pub max_pins : Option ℕ

-- the numbers are in their ranges
pub record IsInRange (rise fall weight max_pins : Option ℕ) : Type 0 where
  pub rise_from : ForSome rise (λ number. 1 ≤ number)
  pub rise_to : ForSome rise (λ number. number ≤ MAX_STREAK)
  pub fall_from : ForSome fall (λ number. 1 ≤ number)
  pub fall_to : ForSome fall (λ number. number ≤ MAX_STREAK)
  pub weight_to : ForSome weight (λ number. number ≤ MAX_WEIGHT)
  pub max_pins_to : ForSome max_pins (λ number. number ≤ MAX_PINS)
