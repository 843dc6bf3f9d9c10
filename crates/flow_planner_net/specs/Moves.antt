-- Pins of one group that go from one option to another.
use Rattle.std.specs.Prelude.{◌≡◌, ◌≢◌, ℕ, ◌+◌, ◌<◌}

-- so many pins of the group have gone from one option to another
pub record IsMoved (width : ℕ) (old new : ℕ → ℕ → ℕ) (source target via q : ℕ) : Type 0 where
  pub apart : source ≢ target
  pub taken : new source via + q ≡ old source via
  pub given : new target via ≡ old target via + q
  pub other_options : (k h : ℕ) → h < width → k ≢ source → k ≢ target → new k h ≡ old k h
  pub other_groups : (k h : ℕ) → h < width → h ≢ via → new k h ≡ old k h
