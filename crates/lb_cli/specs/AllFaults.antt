-- What the faults are that `check --all` reports, beside the one that `check` does.
use Rattle.std.specs.Prelude.{◌≡◌, ◌<◌, ℕ, true, List, [], ◌∷◌, ◌++◌, length, Option, Some, None, Err, codes}
use Rattle.lb_config_sections.specs.declared.cause.LocatedFault.{LocatedFault}
use Rattle.lb_config_sections.specs.References.{checked_in}
use Rattle.lb_config_hints.specs.declared.hint.Hint.{Hint}
use Rattle.lb_cli_faults.specs.Faults.{fault_line}
use Rattle.lb_cli.specs.Checking.{is_valid, report_of}
use Rattle.lb_cli.specs.CheckingAll.{IsFullReport, first_faults, hint_line, next_fault, without_line}
use Rattle.lb_cli.specs.declared.check_all_job.TheConstants.{MOST_FAULTS}

-- what `check` prints of a text is the beginning of what `check --all` does
abbrev pub BeginsAsCheck : Type 0
BeginsAsCheck = (text report : List ℕ) → IsFullReport text report → (more : List ℕ) × (report ≡ report_of (checked_in text) ++ more)

-- if a text is valid without the line of its fault, this fault is reported, perhaps a hint, and that there is one
abbrev pub OneFaultIsOne : Type 0
OneFaultIsOne = (text report : List ℕ) (fault : LocatedFault) → IsFullReport text report → checked_in text ≡ Err fault
    → is_valid (checked_in (without_line fault.line text)) ≡ true
    → (hint : Option Hint) × (report ≡ fault_line fault ++ hint_line hint ++ codes "1 fault\n")

-- the text without the lines of these faults
abbrev pub without_lines : List LocatedFault → List ℕ → List ℕ
without_lines [] text = text
without_lines (fault ∷ more) text = without_lines more (without_line fault.line text)

-- the line of the last of the faults behind this line
abbrev pub last_line : Option ℕ → List LocatedFault → Option ℕ
last_line last [] = last
last_line last (fault ∷ more) = last_line (Some fault.line) more

-- if fewer faults are reported than are looked for, the text without their lines is valid, or its fault is at the line of the last one
abbrev pub NoOtherIsLeft : Type 0
NoOtherIsLeft = (text : List ℕ) → length (first_faults MOST_FAULTS text) < MOST_FAULTS
    → next_fault (last_line None (first_faults MOST_FAULTS text)) (checked_in (without_lines (first_faults MOST_FAULTS text) text)) ≡ None
