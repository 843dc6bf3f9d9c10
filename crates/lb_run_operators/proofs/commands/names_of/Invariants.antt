use Rattle.std.proofs.Common.{◌≡◌, ◌≤◌, ◌-◌, ℕ, Some, length, slice_get}
use Rattle.command_socket_serve.specs.Consoles.{IsNameOf}
use Rattle.lb_answers.specs.declared.named_backend.NamedBackend.{NamedBackend}
use Rattle.lb_config.specs.ConfigViews.{BackendView}
use Rattle.lb_run_operators.proofs.commands.names_of.Given as goal

-- a name for each backend so far
abbrev pub invariant-loop-place : goal.invariant-loop-place
invariant-loop-place l = record {
  within : l.place ≤ length l.configs;
  count : length l.names.items ≡ l.place;
  each : (place : ℕ) (named : NamedBackend) → slice_get l.names.items place ≡ Some named → (config : BackendView)
      → slice_get l.configs place ≡ Some config → IsNameOf config named;
}

abbrev pub decreases-loop-place : goal.decreases-loop-place
decreases-loop-place l = length l.configs - l.place
