-- How the faults of a check are printed.
use Rattle.std.specs.Prelude.{ℕ, List, codes}
use Rattle.cert_check.specs.declared.fault.CheckFault.{CheckFault}
use Rattle.cert_check.specs.declared.fault.CheckFault.TheVariants.{RowsDiffer, NotPermitted, OverCapacity, NotShown}

-- the fault's number and its name
abbrev pub fault_text : CheckFault → List ℕ
fault_text RowsDiffer = codes "50 RowsDiffer"
fault_text NotPermitted = codes "51 NotPermitted"
fault_text OverCapacity = codes "52 OverCapacity"
fault_text NotShown = codes "53 NotShown"
