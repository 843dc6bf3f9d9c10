-- What `verify --sheet` makes of the text of its sheet, before it reads the plan.
use Rattle.std.specs.Prelude.{ℕ, List, [], ◌∷◌, ◌++◌, codes, Option, Some, None, Result, Ok, Err}
use Rattle.dual_cert_plan.specs.Sheets.{SheetParts}
use Rattle.dual_cert_text.specs.declared.fault.TextFault.{TextFault}
use Rattle.dual_cert_text.specs.Faults.{fault_text}

-- the sheet, if one was read
abbrev pub sheet_read : Result SheetParts TextFault → Option SheetParts
sheet_read (Ok sheet) = Some sheet
sheet_read (Err fault) = None

-- what is written before the plan is read: nothing, or the fault of the sheet's text, which is named so
abbrev pub complaint_of : Result SheetParts TextFault → List ℕ
complaint_of (Ok sheet) = []
complaint_of (Err fault) = codes "sheet " ++ fault_text fault ++ 10 ∷ []
