-- The backends of a configuration at their places, as their desks opened. It says what `OpenInOrder` of `lb_desk_backend` says, and has no
-- data, so that a floor can keep it. Our own words.
use Rattle.std.specs.Prelude.{◌≡◌, ℕ, List, Some, length, slice_get}
use Rattle.lb_config.specs.ConfigViews.{BackendView}
use Rattle.lb_desk_backend.specs.Configured.{IsBackendOf}
use Rattle.lb_desk_model.specs.Backends.{OpenedBackend}

-- this backend is configured at the place, and its desk opened so
pub record IsAt (place : ℕ) (config : BackendView) (opened : OpenedBackend) : Type 0 where
  pub number : opened.number ≡ place
  pub parts : IsBackendOf config opened.parts
  pub journal_size : opened.journal_size ≡ config.journal

-- each backend is at its place
pub record AreAt (configs : List BackendView) (opened : List OpenedBackend) : Type 0 where
  pub count : length opened ≡ length configs
  pub each : (place : ℕ) (config : BackendView) (one : OpenedBackend) → slice_get configs place ≡ Some config → slice_get opened place ≡ Some one
      → IsAt place config one
