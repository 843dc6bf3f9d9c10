-- The lines of a text, one after another.
use Rattle.std.proofs.Common.{◌≡◌, ℕ, ◌+◌, ◌<◌, Bool, true, false, eqb, cond, List, [], ◌∷◌, length, Result, Err, refl, arith, codes}
use Rattle.std.specs.List.{onto_first}
use Rattle.std.specs.Str.{bytes_eq}
use Rattle.std.proofs.lemmas.Bool.Decides.{nat_tests}
use Rattle.lb_types_text.specs.Parts.{parts}
use Rattle.lb_types_text.proofs.Cuts.{some_part}
use Rattle.dual_cert_text.specs.declared.fault.TextFault.{TextFault}
use Rattle.dual_cert_text.specs.declared.fault.TextFault.TheVariants.{Truncated}
use Rattle.dual_cert_text.specs.declared.fault.ReadError.{ReadError}
use Rattle.dual_cert_text.specs.declared.fault.ReadError.TheVariants as errors
use Rattle.dual_cert_text.specs.Faults.{◌>>=◌, Fails}
use Rattle.dual_cert_text.specs.Texts.{Format, is_nothing, end_at, body_at}

nothing_behind_mark : (ps : List (List ℕ)) → 0 < length ps → is_nothing ([] ∷ ps) ≡ false
unfolding is_nothing
nothing_behind_mark [] some = absurd (omega arith)
nothing_behind_mark (p ∷ ps) some = refl

nothing_onto : (x : ℕ) (ps : List (List ℕ)) → is_nothing (onto_first x ps) ≡ false
unfolding is_nothing
nothing_onto x [] = refl
nothing_onto x (p ∷ []) = let z : eqb (length (x ∷ p)) 0 ≡ false = grind (arith, nat_tests) in rw z refl
nothing_onto x (p ∷ q ∷ ps) = refl

nothing_cons : (b : Bool) (x : ℕ) (ps : List (List ℕ)) → 0 < length ps → is_nothing (cond b ([] ∷ ps) (onto_first x ps)) ≡ false
nothing_cons true x ps some = nothing_behind_mark ps some
nothing_cons false x ps some = nothing_onto x ps

-- nothing stands behind the last line end of no bytes alone
pub is_nothing-parts : (bytes : List ℕ) → is_nothing (parts 10 bytes) ≡ eqb (length bytes) 0
unfolding is_nothing
is_nothing-parts [] = refl
is_nothing-parts (x ∷ xs) =
    let z : eqb (length (x ∷ xs)) 0 ≡ false = grind (arith, nat_tests) in
    rw z (nothing_cons (eqb x 10) x (parts 10 xs) (some_part 10 xs))

pub some_more : (ps : List (List ℕ)) → 0 < length ps → eqb (length ps) 0 ≡ false
some_more ps some = grind (arith, nat_tests)

-- the body from a line on
pub body_end : {D : Type 0} (format : Format D) (n : ℕ) (draft : D) (text line behind : List ℕ) → parts 10 text ≡ line ∷ parts 10 behind → bytes_eq line (codes "end") ≡ true → end_at format n draft (parts 10 behind) ≡ body_at format n draft (parts 10 text)
unfolding body_at
body_end format n draft text line behind found is =
    let more = some_more (parts 10 behind) (some_part 10 behind) in
    rw (found, more, is) refl

pub body_more : {D : Type 0} (format : Format D) (n : ℕ) (draft : D) (text line behind : List ℕ) → parts 10 text ≡ line ∷ parts 10 behind → bytes_eq line (codes "end") ≡ false → (format.add n draft (parts 32 line) >>= λ next. body_at format (n + 1) next (parts 10 behind)) ≡ body_at format n draft (parts 10 text)
unfolding body_at
body_more format n draft text line behind found is =
    let more = some_more (parts 10 behind) (some_part 10 behind) in
    rw (found, more, is) refl

pub body_none : {D : Type 0} (format : Format D) (n : ℕ) (draft : D) (text : List ℕ) → parts 10 text ≡ text ∷ [] → body_at format n draft (parts 10 text) ≡ Err Truncated
unfolding body_at
body_none format n draft text none = rw none refl

-- what fails in the first step fails in both
pub Fails-bind : {A B : Type 0} (e : ReadError) (r : Result A TextFault) (f : A → Result B TextFault) → Fails e r → Fails e (r >>= f)
Fails-bind errors.Memory r f fails = tt
Fails-bind (errors.Fault fault) r f fails = rw fails refl
