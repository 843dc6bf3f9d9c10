-- The ranges of numbers in a configuration: HAProxy Configuration Manual 2.8, sections 2.4 ("Time format") and 4.2 (`bind`, `server`).
use Rattle.std.specs.Prelude.{ℕ, ◌≤◌}
use Rattle.lb_config_arguments.specs.declared.address.TheConstants.{MAX_PORT}
use Rattle.lb_config_arguments.specs.declared.numbers.TheConstants.{MAX_MILLIS}

-- the number is from `least` to `most`, both included
abbrev pub IsFromTo : ℕ → ℕ → ℕ → Type 0
IsFromTo least most number = (least ≤ number) × (number ≤ most)

-- so many milliseconds are a time
abbrev pub IsTime : ℕ → Type 0
IsTime millis = millis ≤ MAX_MILLIS

abbrev pub IsPort : ℕ → Type 0
IsPort port = IsFromTo 1 MAX_PORT port
