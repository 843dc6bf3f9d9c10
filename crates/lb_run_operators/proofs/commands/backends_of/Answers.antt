use Rattle.std.proofs.Common.{◌≡◌, ◌∙◌, ℕ, ◌+◌, Some, length, slice_get, refl, sym, ap, subst, arith}
use Rattle.std.proofs.lemmas.List.{length_push}
use Rattle.std.proofs.lemmas.Option.{same_Some, slice_get_read}
use Rattle.lb_config.specs.ConfigViews.{BackendView}
use Rattle.lb_desk_backend.specs.Configured.{IsBackendOf}
use Rattle.lb_desk_backend.proofs.Placed.{pushed}
use Rattle.lb_desk_model.specs.Backends.{BackendParts}
use Rattle.lb_run_operators.proofs.commands.backends_of.Goals as goal

pub loop-config-preserved : goal.loop-config-preserved
loop-config-preserved c =
    let configs = c.args.configs.now in
    let all = c.loop-config.backends.items in
    let next = c.in_ok-backend_of.field-0 in
    let here : slice_get configs c.loop-config.config-index ≡ Some c.config-item.result =
    slice_get_read configs (length configs) c.loop-config.config-index c.config-item.result refl c.loop-config-test.true c.config-item.is in
    record {
      within = omega (arith, c.loop-config-test.true);
      count = ap (λ l. length l) c.in_ok-push.ensures.items ∙ length_push all next ∙ ap (λ (n : ℕ). n + 1) c.loop-config.invariant.count;
      each = λ place backend at.
          pushed (λ (p : ℕ) (b : BackendParts). (config : BackendView) → slice_get configs p ≡ Some config → IsBackendOf config b) all next
          c.loop-config.invariant.each
          (λ config there.
          let same = same_Some c.config-item.result config (sym here ∙ ap (λ (n : ℕ). slice_get configs n) (sym c.loop-config.invariant.count) ∙ there) in
          subst (λ (b : BackendView). IsBackendOf b next) same c.in_ok-backend_of.ensures)
          place backend (ap (λ l. slice_get l place) (sym c.in_ok-push.ensures.items) ∙ at);
    }

pub returns : goal.returns
returns c =
    let end : c.loop-config.config-index ≡ length c.args.configs.now = omega (arith, c.loop-config-test.false, c.loop-config.invariant.within) in
    record { count = c.loop-config.invariant.count ∙ end; each = c.loop-config.invariant.each }
