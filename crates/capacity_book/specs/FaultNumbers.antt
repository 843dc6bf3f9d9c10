-- The numbers of faults in answers to operators.
use Rattle.std.specs.Prelude.{ℕ}
use Rattle.capacity_book.specs.declared.fault.OpenFault.{OpenFault}
use Rattle.capacity_book.specs.declared.fault.OpenFault.TheVariants.{NotServing, Full}
use Rattle.capacity_book.specs.declared.fault.CloseFault.{CloseFault}
use Rattle.capacity_book.specs.declared.fault.CloseFault.TheVariants.{NotOpen}

-- the number of a fault that opens no connection
abbrev pub open_number : OpenFault → ℕ
open_number Full = 30
open_number NotServing = 31

-- the number of a fault that ends no connection
abbrev pub close_number : CloseFault → ℕ
close_number NotOpen = 32
