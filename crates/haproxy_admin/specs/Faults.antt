-- What a call gives of what reading has.
use Rattle.std.specs.Prelude.{◌≡◌, ℕ, Result, Ok, Err}
use Rattle.haproxy_admin.specs.declared.fault.ReadError.{ReadError}
use Rattle.haproxy_admin.specs.declared.fault.ReadError.TheVariants.{Memory, Line}

-- the call failed as it ran out of memory, or with the line that reading has
abbrev pub Fails : {B : Type 0} → ReadError → Result B ℕ → Type 0
Fails Memory reading = Unit {0}
Fails (Line n) reading = reading ≡ Err n

-- what the call gave, seen by `view`, is what reading has, unless memory ran out
abbrev pub Gives : {A B : Type 0} → (A → B) → Result A ReadError → Result B ℕ → Type 0
Gives view (Ok x) reading = reading ≡ Ok (view x)
Gives view (Err e) reading = Fails e reading
