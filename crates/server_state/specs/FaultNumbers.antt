-- The numbers of faults in answers to operators.
use Rattle.std.specs.Prelude.{ℕ}
use Rattle.server_state.specs.declared.change.ChangeFault.{ChangeFault}
use Rattle.server_state.specs.declared.change.ChangeFault.TheVariants.{NoSuchServer, NotChecked, OutOfRange}

-- the number of a change's fault
abbrev pub number_of : ChangeFault → ℕ
number_of NoSuchServer = 10
number_of OutOfRange = 11
number_of NotChecked = 12
