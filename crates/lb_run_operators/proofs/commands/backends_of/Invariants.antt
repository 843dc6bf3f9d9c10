use Rattle.std.proofs.Common.{◌≡◌, ◌≤◌, ℕ, Some, length, slice_get}
use Rattle.lb_config.specs.ConfigViews.{BackendView}
use Rattle.lb_desk_backend.specs.Configured.{IsBackendOf}
use Rattle.lb_desk_model.specs.Backends.{BackendParts}
use Rattle.lb_run_operators.proofs.commands.backends_of.Given as goal

-- a backend for each configured one so far
abbrev pub invariant-loop-config : goal.invariant-loop-config
invariant-loop-config l = record {
  within : l.config-index ≤ length l.configs;
  count : length l.backends.items ≡ l.config-index;
  each : (place : ℕ) (backend : BackendParts) → slice_get l.backends.items place ≡ Some backend → (config : BackendView)
      → slice_get l.configs place ≡ Some config → IsBackendOf config backend;
}
