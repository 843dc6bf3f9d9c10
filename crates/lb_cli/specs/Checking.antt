-- What `check` prints of a configuration: a line for each thing that is ignored, and that it is valid; or its first fault.
use Rattle.std.specs.Prelude.{ℕ, Bool, true, false, List, ◌++◌, codes, Result, Ok, Err}
use Rattle.std.specs.List.{flat_map}
use Rattle.lb_config_sections.specs.declared.cause.LocatedFault.{LocatedFault}
use Rattle.lb_config_sections.specs.declared.warning.Warning.{Warning}
use Rattle.lb_config_sections.specs.SectionsView.{SectionsView}
use Rattle.lb_cli_faults.specs.Faults.{line_label, fault_line}

-- the line of a warning
abbrev pub warning_line : Warning → List ℕ
warning_line warning = line_label warning.line ++ warning.words ++ codes " ignored\n"

-- what is printed of a configuration that was read, or of its fault
abbrev pub report_of : Result SectionsView LocatedFault → List ℕ
report_of (Ok sections) = flat_map warning_line sections.warnings ++ codes "configuration is valid\n"
report_of (Err fault) = fault_line fault

-- the configuration is valid
abbrev pub is_valid : Result SectionsView LocatedFault → Bool
is_valid (Ok sections) = true
is_valid (Err fault) = false
