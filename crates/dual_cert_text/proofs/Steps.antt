-- What a chain of steps that gave a value says of each step.
use Rattle.std.proofs.Common.{◌≡◌, ℕ, Bool, true, false, not, ◌&&◌, cond, ◌⊎◌, inl, inr, Option, Some, None, List, Result, Ok, Err, refl}
use Rattle.std.specs.Option.{ok_or}
use Rattle.std.specs.Str.{bytes_eq}
use Rattle.std.proofs.lemmas.Slice.Eq.{bytes_eq-Decides}
use Rattle.dual_cert_text.specs.declared.fault.TextFault.{TextFault}
use Rattle.dual_cert_text.specs.Faults.{◌>>=◌}
use Rattle.dual_cert_text.specs.Words.{◌>>=◌ as ◌>>?◌}

pub bind_ok : {A B : Type 0} (r : Result A TextFault) (f : A → Result B TextFault) (y : B) → (r >>= f) ≡ Ok y → (x : A) × (r ≡ Ok x) × (f x ≡ Ok y)
bind_ok (Ok x) f y is = (x, refl, is)
bind_ok (Err e) f y is = cc

pub bind_some : {A B : Type 0} (o : Option A) (f : A → Option B) (y : B) → (o >>? f) ≡ Some y → (x : A) × (o ≡ Some x) × (f x ≡ Some y)
bind_some None f y is = cc
bind_some (Some x) f y is = (x, refl, is)

pub ok_or_ok : {A : Type 0} (o : Option A) (e : TextFault) (x : A) → ok_or o e ≡ Ok x → o ≡ Some x
ok_or_ok None e x is = cc
ok_or_ok (Some y) e x is = cc

-- the test failed, where it leads to a fault
pub unless_err : {A : Type 0} (b : Bool) (e : TextFault) (r : Result A TextFault) (y : A) → cond b (Err e) r ≡ Ok y → (b ≡ false) × (r ≡ Ok y)
unless_err true e r y is = cc
unless_err false e r y is = (refl, is)

-- the test held, where its failing leads to a fault
pub if_err : {A : Type 0} (b : Bool) (e : TextFault) (r : Result A TextFault) (y : A) → cond b r (Err e) ≡ Ok y → (b ≡ true) × (r ≡ Ok y)
if_err true e r y is = (refl, is)
if_err false e r y is = cc

pub unless_none : {A : Type 0} (b : Bool) (o : Option A) (y : A) → cond b None o ≡ Some y → (b ≡ false) × (o ≡ Some y)
unless_none true o y is = cc
unless_none false o y is = (refl, is)

pub if_none : {A : Type 0} (b : Bool) (o : Option A) (y : A) → cond b o None ≡ Some y → (b ≡ true) × (o ≡ Some y)
if_none true o y is = (refl, is)
if_none false o y is = cc

-- one way or the other
pub either : {A : Type 0} (b : Bool) (x y z : A) → cond b x y ≡ z → ((b ≡ true) × (x ≡ z)) ⊎ ((b ≡ false) × (y ≡ z))
either true x y z is = inl (refl, is)
either false x y z is = inr (refl, is)

-- words that compare as equal are the same
pub bytes_is : (a b : List ℕ) → bytes_eq a b ≡ true → a ≡ b
bytes_is a b same = (bytes_eq-Decides a b).0 same

pub bytes_same : (a : List ℕ) → bytes_eq a a ≡ true
bytes_same a = (bytes_eq-Decides a a).1 refl

pub and_true : (a b : Bool) → (a && b) ≡ true → (a ≡ true) × (b ≡ true)
and_true true b both = (refl, both)
and_true false b both = cc

pub not_true : (b : Bool) → not b ≡ true → b ≡ false
not_true true is = cc
not_true false is = refl
