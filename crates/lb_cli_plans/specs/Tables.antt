-- What `plan --table` writes for the text of a sheet. Which of several best plans the tables show, and at which prices, is left open.
use Rattle.std.specs.Prelude.{◌≡◌, ℕ, List, [], ◌∷◌, ◌++◌, Result, Ok, Err}
use Rattle.pin_set.specs.declared.totals.Score.{Score}
use Rattle.pin_set.specs.Rows.{AgreeingAreBest}
use Rattle.cert_check_law.specs.Sheets.{sheet_room}
use Rattle.dual_cert_plan.specs.Plans.{PlanParts}
use Rattle.dual_cert_plan.specs.Sheets.{SheetParts}
use Rattle.dual_cert_text.specs.declared.fault.TextFault.{TextFault}
use Rattle.dual_cert_text.specs.Faults.{fault_text}
use Rattle.dual_cert_sheet.specs.SheetTexts.{sheet_of_text}
use Rattle.cert_check.specs.Verdict.{verdict}
use Rattle.lb_cli_tables.specs.Tables.{tables_text}

-- the text is that of the tables of a plan with the sheet's version; the check accepts this plan for the sheet, and each assignment
-- that agrees with it is best at the sheet's capacities
pub record AreTablesFor (sheet : SheetParts) (text : List ℕ) : Type 0 where
  pub plan : PlanParts
  pub told : text ≡ tables_text plan
  pub version : plan.version ≡ sheet.version
  pub score : Score
  pub accepted : verdict sheet plan ≡ Ok score
  pub best : AgreeingAreBest (sheet_room sheet) plan.rows

-- what is written for a sheet that was read, or for the first fault of its text
abbrev pub TellsReading : Result SheetParts TextFault → List ℕ → Type 0
TellsReading (Ok sheet) written = AreTablesFor sheet written
TellsReading (Err fault) written = written ≡ fault_text fault ++ 10 ∷ []

-- what is written for a text
abbrev pub TellsTables : List ℕ → List ℕ → Type 0
TellsTables text written = TellsReading (sheet_of_text text) written
