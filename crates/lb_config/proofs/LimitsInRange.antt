-- The limits of times that are in range.
use Rattle.std.proofs.Common.{ℕ, Option, Some, None, IfSome, arith}
use Rattle.std.specs.Prelude.{◌==◌}
use Rattle.std.proofs.lemmas.Bool.{cond_both, eqb-false}
use Rattle.lb_config_arguments.specs.Ranges.{IsTime}
use Rattle.lb_config.specs.Limits.{limit_of}
use Rattle.lb_config.specs.Ranges.{IsLimit}

pub limit_ok : (time : Option ℕ) → IfSome time IsTime → IfSome (limit_of time) IsLimit
limit_ok None is = tt
limit_ok (Some millis) is =
    cond_both (millis == 0) _ _ (λ (o : Option ℕ). IfSome o IsLimit) (λ e. tt) (λ e. (omega (arith, eqb-false millis 0 e), is))
