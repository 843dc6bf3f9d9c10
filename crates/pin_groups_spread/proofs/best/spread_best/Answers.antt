use Rattle.std.proofs.Common.{sym, ◌∙◌}
use Rattle.pin_groups_spread.proofs.Accepted.{accepted_for_each, never_refused}
use Rattle.pin_groups_spread.proofs.best.spread_best.Goals as goal

pub returns-then-is_err-clause-some : goal.returns-then-is_err-clause-some
returns-then-is_err-clause-some c = (
  λ never. absurd cc,
  λ accepted.
      never_refused _ _ c.check.ensures.exact
      (accepted_for_each _ _ _ c.in_ok-sheet.ensures.lawful c.in_ok-sheet.ensures.exact accepted)
      (sym c.is_err.ensures.value ∙ c.if-is_err.true),
)
