-- What `verify` finds of a text, and the line that it prints.
use Rattle.std.specs.Prelude.{◌≡◌, ℕ, ⊤, Bool, true, false, ◌==◌, List, [], ◌∷◌, ◌++◌, codes, Result, Ok, Err, if◌then◌else◌}
use Rattle.std.specs.Fmt.{decimal}
use Rattle.pin_set.specs.declared.totals.Score.{Score}
use Rattle.pin_set.specs.Rows.{rows_score, AgreeingAreBest}
use Rattle.cert_check_law.specs.Sheets.{sheet_room}
use Rattle.dual_cert_plan.specs.Plans.{PlanParts, own_sheet}
use Rattle.dual_cert_text.specs.declared.fault.TextFault.{TextFault}
use Rattle.dual_cert_text.specs.Faults.{fault_text}
use Rattle.dual_cert_text.specs.PlanTexts.{plan_of_text}
use Rattle.cert_check.specs.declared.fault.CheckFault.{CheckFault}
use Rattle.cert_check.specs.Faults.{fault_text as check_fault_text}
use Rattle.cert_check.specs.Verdict.{verdict, IsMadeFor}
use Rattle.dual_cert_plan.specs.Sheets.{SheetParts}
use Rattle.lb_cli_verify.specs.declared.finding.Finding.{Finding}
use Rattle.lb_cli_verify.specs.declared.finding.Finding.TheVariants.{Best, NoPlan, Refused, OtherVersion}

-- what the checker says of a plan and the sheet that it speaks of
abbrev pub finding_of_verdict : Result Score CheckFault → Finding
finding_of_verdict (Ok score) = Best score
finding_of_verdict (Err fault) = Refused fault

abbrev pub finding_of_reading : Result PlanParts TextFault → Finding
finding_of_reading (Ok plan) = finding_of_verdict (verdict (own_sheet plan) plan)
finding_of_reading (Err fault) = NoPlan fault

-- what is found of a text: the plan that it spells, and the checker's verdict on it
abbrev pub finding_of : List ℕ → Finding
finding_of text = finding_of_reading (plan_of_text text)

-- the text spells a plan; each assignment that agrees with the plan is best at the plan's own capacities, and has this score
pub record IsBestPlan (text : List ℕ) (score : Score) : Type 0 where
  pub plan : PlanParts
  pub read : plan_of_text text ≡ Ok plan
  pub agreeing : AgreeingAreBest (sheet_room (own_sheet plan)) plan.rows
  pub score_is : rows_score plan.rows ≡ score

-- what a finding says of plans: `Best` says that the text's plan is best. The others say nothing
abbrev pub MeansBest : List ℕ → Finding → Type 0
MeansBest text (Best score) = IsBestPlan text score
MeansBest text (NoPlan fault) = ⊤
MeansBest text (Refused fault) = ⊤
MeansBest text (OtherVersion plan sheet) = ⊤

-- ---- a plan for a given sheet

-- what the checker says of a plan for a sheet. The checker doesn't compare versions: a plan of another one is told by both
abbrev pub finding_at_versions : ℕ → ℕ → Result Score CheckFault → Finding
finding_at_versions plan sheet (Ok score) = if plan == sheet then Best score else OtherVersion plan sheet
finding_at_versions plan sheet (Err fault) = Refused fault

abbrev pub finding_of_reading_for : SheetParts → Result PlanParts TextFault → Finding
finding_of_reading_for sheet (Ok plan) = finding_at_versions plan.version sheet.version (verdict sheet plan)
finding_of_reading_for sheet (Err fault) = NoPlan fault

-- what is found of a text whose plan is to be for the sheet
abbrev pub finding_for : SheetParts → List ℕ → Finding
finding_for sheet text = finding_of_reading_for sheet (plan_of_text text)

-- a plan of the sheet's version, made for the sheet; each assignment that agrees with it is best at the sheet's capacities, and has this score
pub record IsBestFor (sheet : SheetParts) (plan : PlanParts) (score : Score) : Type 0 where
  pub version : plan.version ≡ sheet.version
  pub made_for : IsMadeFor sheet plan
  pub agreeing : AgreeingAreBest (sheet_room sheet) plan.rows
  pub score_is : rows_score plan.rows ≡ score

-- what a finding says of a plan that was made for the sheet
abbrev pub MeansIsBestFor : SheetParts → PlanParts → Finding → Type 0
MeansIsBestFor sheet plan (Best score) = IsBestFor sheet plan score
MeansIsBestFor sheet plan _ = ⊤

-- the text spells a plan that is best for the sheet, with this score
pub record IsBestPlanFor (sheet : SheetParts) (text : List ℕ) (score : Score) : Type 0 where
  pub plan : PlanParts
  pub read : plan_of_text text ≡ Ok plan
  pub best : IsBestFor sheet plan score

-- what such a finding says of plans
abbrev pub MeansBestFor : SheetParts → List ℕ → Finding → Type 0
MeansBestFor sheet text (Best score) = IsBestPlanFor sheet text score
MeansBestFor sheet text _ = ⊤

-- ---- what is printed

abbrev pub is_best : Finding → Bool
is_best (Best score) = true
is_best _ = false

-- a number behind its label
abbrev pub labelled : List ℕ → ℕ → List ℕ
labelled label number = label ++ decimal number

abbrev pub score_words : Score → List ℕ
score_words score =
    labelled (codes "best pins ") score.pins ++ labelled (codes " unplaced ") score.unplaced ++ labelled (codes " moved ") score.moved

-- the cost is told where it isn't the number of moved pins
abbrev pub score_line : Score → List ℕ
score_line score = if score.cost == score.moved then score_words score else score_words score ++ labelled (codes " cost ") score.cost

-- the two versions, where they differ
abbrev pub versions_line : ℕ → ℕ → List ℕ
versions_line plan sheet = labelled (codes "version ") plan ++ labelled (codes " differs from the sheet's ") sheet

abbrev pub finding_text : Finding → List ℕ
finding_text (Best score) = score_line score
finding_text (NoPlan fault) = fault_text fault
finding_text (Refused fault) = check_fault_text fault
finding_text (OtherVersion plan sheet) = versions_line plan sheet

-- the finding as it is printed
abbrev pub line_of : Finding → List ℕ
line_of finding = finding_text finding ++ 10 ∷ []
