-- A text that passes each test of a name is one.
use Rattle.std.proofs.Common.{◌≡◌, ◌≤◌, ◌<◌, ℕ, Bool, true, false, eqb, leb, ltb, List, length, Result, Ok, Err, refl}
use Rattle.std.proofs.lemmas.Bool.{le-leb, le-ltb}
use Rattle.lb_types.specs.Names.{name_of, is_name, is_lawful}

pub is_name-from_tests : (bytes : List ℕ) → eqb (length bytes) 0 ≡ false → length bytes ≤ 64 → is_lawful bytes ≡ true → is_name bytes ≡ true
is_name-from_tests bytes some short lawful =
    let within = le-leb (length bytes) 64 short in
    rw (some, within, lawful) refl

pub name_of-from_tests : (bytes : List ℕ) → eqb (length bytes) 0 ≡ false → length bytes ≤ 64 → is_lawful bytes ≡ true → name_of bytes ≡ Ok bytes
name_of-from_tests bytes some short lawful =
    let within = le-ltb 64 (length bytes) short in
    rw (some, within, lawful) refl
