-- Faults of a configuration with the lines in which they stand.
use Rattle.std.specs.Prelude.{◌≡◌, ℕ, codes, Result, Ok, Err}
use Rattle.lb_config_arguments.specs.declared.fault.Fault.{Fault}
use Rattle.lb_config_arguments.specs.declared.fault.Fault.TheVariants as Line
use Rattle.lb_config_limits.specs.declared.fault.LimitFault.{LimitFault}
use Rattle.lb_config_limits.specs.declared.fault.LimitFault.TheVariants as Limit
use Rattle.lb_config_sections.specs.declared.cause.Cause.{Cause}
use Rattle.lb_config_sections.specs.declared.cause.Cause.TheVariants as Of
use Rattle.lb_config_sections.specs.declared.cause.LocatedFault.{LocatedFault}
use Rattle.lb_config_sections.specs.declared.cause.ConfigFault.{ConfigFault}
use Rattle.lb_config_sections.specs.declared.cause.ConfigFault.TheVariants as faults

-- the cause that a line's own fault is
abbrev pub line_cause : Fault → Cause
line_cause Line.UnknownSection = Of.UnknownSection
line_cause Line.UnknownWord = Of.UnknownWord
line_cause Line.Missing = Of.Missing
line_cause Line.BadNumber = Of.BadNumber
line_cause Line.BadName = Of.BadName
line_cause Line.TooMany = Of.TooMany
line_cause (Line.LeftOut word) = Of.LeftOut word

-- the cause of a line that may not stand behind the lines before it
abbrev pub limit_cause : LimitFault → Cause
limit_cause Limit.Duplicate = Of.Duplicate
limit_cause Limit.TooMany = Of.TooMany
limit_cause Limit.SecondStick = Of.LeftOut (codes "stick")

-- what was read in this line, its fault told with the line's number
abbrev pub at_line : {A F : Type 0} → ℕ → (F → Cause) → Result A F → Result A LocatedFault
at_line number cause (Ok x) = Ok x
at_line number cause (Err fault) = Err (record { line = number; cause = cause fault })

-- the second step, if the first one found no fault
infixl 10 ◌>>=◌
abbrev pub ◌>>=◌ : {A B : Type 0} → Result A LocatedFault → (A → Result B LocatedFault) → Result B LocatedFault
(Ok x) >>= f = f x
(Err e) >>= f = Err e

-- the call failed for want of memory, or with the fault that the definition has
abbrev pub Fails : {B : Type 0} → ConfigFault → Result B LocatedFault → Type 0
Fails faults.Memory reading = Unit {0}
Fails (faults.Fault fault) reading = reading ≡ Err fault

-- what a call gave, seen by `view`, is what the definition has, unless memory ran out
abbrev pub Gives : {A B : Type 0} → (A → B) → Result A ConfigFault → Result B LocatedFault → Type 0
Gives view (Ok x) reading = reading ≡ Ok (view x)
Gives view (Err e) reading = Fails e reading

-- the number of the fault, as it is printed
abbrev pub number_of : Cause → ℕ
number_of Of.NotUtf8 = 20
number_of Of.UnknownSection = 21
number_of Of.UnknownWord = 22
number_of Of.Missing = 23
number_of Of.BadNumber = 24
number_of Of.BadName = 25
number_of Of.Duplicate = 26
number_of Of.NoSuchName = 27
number_of Of.TooMany = 28
number_of (Of.LeftOut word) = 29
