-- What is written for a text, by what it says.
use Rattle.std.proofs.Common.{◌≡◌, ℕ, true, false, List, [], ◌∷◌, ◌++◌, Err, refl}
use Rattle.dual_cert_plan.specs.Sheets.{SheetParts, IsSheet}
use Rattle.dual_cert_text.specs.declared.fault.TextFault.{TextFault}
use Rattle.dual_cert_text.specs.Faults.{fault_text}
use Rattle.dual_cert_sheet.specs.SheetSpellings.{sheet_spelling}
use Rattle.sheet_format.specs.Meanings.{Means}
use Rattle.sheet_format.specs.Texts.{said_by}
use Rattle.lb_cli_format.specs.Formatting.{Answers, means_one}

pub spelled : (text written : List ℕ) (sheet : SheetParts) → Means text sheet → IsSheet sheet → written ≡ sheet_spelling sheet → Answers text written
spelled text written sheet means lawful is = rw means.read (record { sheet = sheet; lawful = lawful; is_of = means.is_of; spelled = is })

pub meant : (text : List ℕ) (sheet : SheetParts) → Means text sheet → true ≡ means_one (said_by text)
meant text sheet means = rw means.read refl

pub faulty : (text written : List ℕ) (fault : TextFault) → said_by text ≡ Err fault → written ≡ fault_text fault ++ 10 ∷ [] → Answers text written
faulty text written fault is same = rw is same

pub unmeant : (text : List ℕ) (fault : TextFault) → said_by text ≡ Err fault → false ≡ means_one (said_by text)
unmeant text fault is = rw is refl
