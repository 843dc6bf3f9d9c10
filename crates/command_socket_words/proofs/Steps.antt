-- What a chain of steps that gave a value, or a fault, says of each step.
use Rattle.std.proofs.Common.{◌≡◌, ℕ, Bool, true, false, not, ◌&&◌, cond, ◌⊎◌, inl, inr, Option, Some, None, List, Result, Ok, Err, refl}
use Rattle.std.specs.Option.{ok_or}
use Rattle.std.specs.Str.{bytes_eq}
use Rattle.std.proofs.lemmas.Slice.Eq.{bytes_eq-Decides}
use Rattle.command_socket_words.specs.declared.fault.CommandFault.{CommandFault}
use Rattle.command_socket_words.specs.Faults.{◌>>=◌}

pub bind_ok : {A B : Type 0} (r : Result A CommandFault) (f : A → Result B CommandFault) (y : B) → (r >>= f) ≡ Ok y → (x : A) × (r ≡ Ok x) × (f x ≡ Ok y)
bind_ok (Ok x) f y is = (x, refl, is)
bind_ok (Err e) f y is = cc

-- a fault behind a step that has none is the step's own
pub mapped_err : {A B : Type 0} (r : Result A CommandFault) (h : A → B) (e : CommandFault) → (r >>= λ x. Ok (h x)) ≡ Err e → r ≡ Err e
mapped_err (Ok x) h e is = cc
mapped_err (Err d) h e is = cc

pub ok_or_ok : {A : Type 0} (o : Option A) (e : CommandFault) (x : A) → ok_or o e ≡ Ok x → o ≡ Some x
ok_or_ok None e x is = cc
ok_or_ok (Some y) e x is = cc

-- the test held, where its failing leads to a fault
pub if_err : {A : Type 0} (b : Bool) (e : CommandFault) (r : Result A CommandFault) (y : A) → cond b r (Err e) ≡ Ok y → (b ≡ true) × (r ≡ Ok y)
if_err true e r y is = (refl, is)
if_err false e r y is = cc

pub if_none : {A : Type 0} (b : Bool) (o : Option A) (y : A) → cond b o None ≡ Some y → (b ≡ true) × (o ≡ Some y)
if_none true o y is = (refl, is)
if_none false o y is = cc

-- words that compare as equal are the same
pub bytes_is : (a b : List ℕ) → bytes_eq a b ≡ true → a ≡ b
bytes_is a b same = (bytes_eq-Decides a b).0 same

pub bytes_same : (a : List ℕ) → bytes_eq a a ≡ true
bytes_same a = (bytes_eq-Decides a a).1 refl

-- the word is the one that leads here, or what is read elsewhere is read
pub by_word : {A : Type 0} (word key : List ℕ) (r s : Result A CommandFault) (y : A) → cond (bytes_eq word key) r s ≡ Ok y → ((word ≡ key) × (r ≡ Ok y)) ⊎ (s ≡ Ok y)
by_word {A} word key r s y is = by_test (bytes_eq word key) refl is
  where
    by_test : (b : Bool) → bytes_eq word key ≡ b → cond b r s ≡ Ok y → ((word ≡ key) × (r ≡ Ok y)) ⊎ (s ≡ Ok y)
    by_test true same is = inl (bytes_is word key same, is)
    by_test false other is = inr is

pub and_true : (a b : Bool) → (a && b) ≡ true → (a ≡ true) × (b ≡ true)
and_true true b both = (refl, both)
and_true false b both = cc

pub not_true : (b : Bool) → not b ≡ true → b ≡ false
not_true true is = cc
not_true false is = refl
