-- What is found by `verify` of the plans that `plan` writes.
use Rattle.std.specs.Prelude.{◌≡◌, ℕ, List}
use Rattle.dual_cert_plan.specs.Sheets.{SheetParts}
use Rattle.lb_cli_plans.specs.Planning.{IsPlanFor}
use Rattle.lb_cli_verify.specs.Verify.{finding_of}
use Rattle.lb_cli_verify.specs.declared.finding.Finding.TheVariants.{Best}

-- the text of a plan for a sheet is found best by itself, with the score that it has for the sheet
abbrev pub PlansAreVerified : Type 0
PlansAreVerified = (sheet : SheetParts) → (text : List ℕ) → (written : IsPlanFor sheet text) → finding_of text ≡ Best written.score
