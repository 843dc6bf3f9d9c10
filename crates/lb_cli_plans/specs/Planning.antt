-- What `plan` writes for the text of a sheet. Which of several best plans it is, and at which prices, is left open.
use Rattle.std.specs.Prelude.{◌≡◌, ℕ, Bool, true, false, List, [], ◌∷◌, ◌++◌, Result, Ok, Err}
use Rattle.pin_set.specs.declared.totals.Score.{Score}
use Rattle.pin_set.specs.Rows.{AgreeingAreBest}
use Rattle.cert_check_law.specs.Sheets.{sheet_room}
use Rattle.dual_cert_plan.specs.Plans.{PlanParts, own_sheet}
use Rattle.dual_cert_plan.specs.Sheets.{SheetParts}
use Rattle.dual_cert_text.specs.declared.fault.TextFault.{TextFault}
use Rattle.dual_cert_text.specs.Faults.{fault_text}
use Rattle.dual_cert_text.specs.PlanTexts.{plan_of_text}
use Rattle.dual_cert_text.specs.Spellings.{spelling}
use Rattle.dual_cert_sheet.specs.SheetTexts.{sheet_of_text}
use Rattle.cert_check.specs.Verdict.{verdict}

-- the text is that of a plan with the sheet's version; the check accepts this plan for the sheet, and each assignment that agrees with
-- it is best at the sheet's capacities. The text reads as this plan, and the check accepts it for its own sheet too, with the same
-- score: that is what `verify` looks at
pub record IsPlanFor (sheet : SheetParts) (text : List ℕ) : Type 0 where
  pub plan : PlanParts
  pub spelled : text ≡ spelling plan
  pub read_back : plan_of_text text ≡ Ok plan
  pub version : plan.version ≡ sheet.version
  pub score : Score
  pub accepted : verdict sheet plan ≡ Ok score
  pub best : AgreeingAreBest (sheet_room sheet) plan.rows
  pub accepted_alone : verdict (own_sheet plan) plan ≡ Ok score

-- what is written for a sheet that was read, or for the first fault of its text
abbrev pub AnswersReading : Result SheetParts TextFault → List ℕ → Type 0
AnswersReading (Ok sheet) written = IsPlanFor sheet written
AnswersReading (Err fault) written = written ≡ fault_text fault ++ 10 ∷ []

-- what is written for a text
abbrev pub Answers : List ℕ → List ℕ → Type 0
Answers text written = AnswersReading (sheet_of_text text) written

-- the text is that of a sheet
abbrev pub was_read : Result SheetParts TextFault → Bool
was_read (Ok sheet) = true
was_read (Err fault) = false
