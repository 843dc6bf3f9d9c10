-- What `format` writes for a lenient text.
use Rattle.std.specs.Prelude.{◌≡◌, ℕ, Bool, true, false, List, [], ◌∷◌, ◌++◌, Result, Ok, Err}
use Rattle.dual_cert_plan.specs.Sheets.{SheetParts, IsSheet}
use Rattle.dual_cert_text.specs.declared.fault.TextFault.{TextFault}
use Rattle.dual_cert_text.specs.Faults.{fault_text}
use Rattle.dual_cert_sheet.specs.SheetSpellings.{sheet_spelling}
use Rattle.sheet_format.specs.Meanings.{IsOf}
use Rattle.sheet_format.specs.Texts.{Said, said_by}

-- the text is the spelling of the sheet of what was said
pub record IsTextOf (said : Said) (text : List ℕ) : Type 0 where
  pub sheet : SheetParts
  pub lawful : IsSheet sheet
  pub is_of : IsOf said sheet
  pub spelled : text ≡ sheet_spelling sheet

-- what is written for what a text says, or for its first fault
abbrev pub AnswersSaid : Result Said TextFault → List ℕ → Type 0
AnswersSaid (Ok said) written = IsTextOf said written
AnswersSaid (Err fault) written = written ≡ fault_text fault ++ 10 ∷ []

-- what is written for a text
abbrev pub Answers : List ℕ → List ℕ → Type 0
Answers text written = AnswersSaid (said_by text) written

-- the text means a sheet
abbrev pub means_one : Result Said TextFault → Bool
means_one (Ok said) = true
means_one (Err fault) = false
