-- The faults of a line, and steps of reading of which the first fault counts.
use Rattle.std.specs.Prelude.{◌≡◌, codes, Option, Some, None, Result, Ok, Err}
use Rattle.lb_config_words.specs.declared.fault.SpellingFault.{SpellingFault}
use Rattle.lb_config_words.specs.declared.fault.SpellingFault.TheVariants as Spelling
use Rattle.lb_config_arguments.specs.declared.fault.Fault.{Fault}
use Rattle.lb_config_arguments.specs.declared.fault.Fault.TheVariants.{Missing, TooMany, LeftOut}
use Rattle.lb_config_arguments.specs.declared.fault.LineError.{LineError}
use Rattle.lb_config_arguments.specs.declared.fault.LineError.TheVariants as errors

-- the second step, if the first one found no fault
infixl 10 ◌>>=◌
abbrev pub ◌>>=◌ : {A B : Type 0} → Result A Fault → (A → Result B Fault) → Result B Fault
(Ok x) >>= f = f x
(Err e) >>= f = Err e

-- the call failed for want of memory, or with the fault that reading has
abbrev pub Fails : {B : Type 0} → LineError → Result B Fault → Type 0
Fails errors.Memory reading = Unit {0}
Fails (errors.Fault fault) reading = reading ≡ Err fault

-- what the call gave, seen by `view`, is what reading has, unless memory ran out
abbrev pub Gives : {A B : Type 0} → (A → B) → Result A LineError → Result B Fault → Type 0
Gives view (Ok x) reading = reading ≡ Ok (view x)
Gives view (Err e) reading = Fails e reading

-- what the call gave, seen by `view`, and what it left are what reading has, unless memory ran out
abbrev pub Takes : {A B S : Type 0} → (A → B) → Result A LineError → S → Result (B × S) Fault → Type 0
Takes view (Ok x) left reading = reading ≡ Ok (view x, left)
Takes view (Err e) left reading = Fails e reading

-- the fault of a line whose spelling breaks off
abbrev pub fault_of_spelling : SpellingFault → Fault
fault_of_spelling Spelling.UnclosedQuote = Missing
fault_of_spelling Spelling.RefusedBackslash = LeftOut (codes "\\")
fault_of_spelling Spelling.RefusedDollar = LeftOut (codes "$")
fault_of_spelling Spelling.TooManyWords = TooMany

-- the fault where a word is wanted and the words end
abbrev pub fault_at_end : Option SpellingFault → Fault
fault_at_end None = Missing
fault_at_end (Some fault) = fault_of_spelling fault
