-- What a `Health` shows: its settings, how the server counts, and how much speaks against that.
use Rattle.std.specs.Prelude.{ℕ, Bool, ◌≤◌, ◌<◌, if◌then◌else◌}
use Rattle.rise_fall.specs.declared.health.TheConstants.{MAX_STREAK}

-- a health as a value
pub record Tally : Type 0 where
  pub rise : ℕ
  pub fall : ℕ
  -- the server counts as up
  pub up : Bool
  -- how many results in a row, up to the last one, say the other thing. The code's own count
  pub against : ℕ

-- how many results in a row turn a server that counts so
abbrev pub needed : ℕ → ℕ → Bool → ℕ
needed rise fall up = if up then fall else rise

-- the settings are in range, and too little speaks against the health for it to have turned
pub record IsTally (rise fall : ℕ) (up : Bool) (against : ℕ) : Type 0 where
  pub rise_from : 1 ≤ rise
  pub rise_to : rise ≤ MAX_STREAK
  pub fall_from : 1 ≤ fall
  pub fall_to : fall ≤ MAX_STREAK
  pub short : against < needed rise fall up
