-- Faults of texts, and steps of reading of which the first fault counts.
use Rattle.std.specs.Prelude.{◌≡◌, ℕ, List, ◌++◌, codes, Result, Ok, Err}
use Rattle.std.specs.Fmt.{decimal}
use Rattle.dual_cert_text.specs.declared.fault.TextFault.{TextFault}
use Rattle.dual_cert_text.specs.declared.fault.TextFault.TheVariants.{BadLine, TooLarge, NotCanonical, Truncated}
use Rattle.dual_cert_text.specs.declared.fault.ReadError.{ReadError}
use Rattle.dual_cert_text.specs.declared.fault.ReadError.TheVariants as errors

-- the second step, if the first one found no fault
infixl 10 ◌>>=◌
abbrev pub ◌>>=◌ : {A B : Type 0} → Result A TextFault → (A → Result B TextFault) → Result B TextFault
(Ok x) >>= f = f x
(Err e) >>= f = Err e

-- what the call gave, seen by `view`, is what reading has
abbrev pub Reads : {A B : Type 0} → (A → B) → Result A TextFault → Result B TextFault → Type 0
Reads view (Ok x) reading = reading ≡ Ok (view x)
Reads view (Err fault) reading = reading ≡ Err fault

-- the call failed for want of memory, or with the fault that reading has
abbrev pub Fails : {B : Type 0} → ReadError → Result B TextFault → Type 0
Fails errors.Memory reading = Unit {0}
Fails (errors.Fault fault) reading = reading ≡ Err fault

-- what the call gave, seen by `view`, is what reading has, unless memory ran out
abbrev pub Gives : {A B : Type 0} → (A → B) → Result A ReadError → Result B TextFault → Type 0
Gives view (Ok x) reading = reading ≡ Ok (view x)
Gives view (Err e) reading = Fails e reading

-- a fault as it is printed
abbrev pub fault_text : TextFault → List ℕ
fault_text (BadLine line) = codes "40 BadLine " ++ decimal line
fault_text TooLarge = codes "41 TooLarge"
fault_text NotCanonical = codes "42 NotCanonical"
fault_text Truncated = codes "43 Truncated"
