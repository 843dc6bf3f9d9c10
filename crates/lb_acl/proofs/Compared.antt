-- Bytes as they are compared, their fronts and their ends.
use Rattle.std.proofs.Common.{◌≡◌, ℕ, ◌-◌, Bool, true, false, nat_eq, List, length, take, drop, refl, sym}
use Rattle.std.specs.Str.{bytes_eq}
use Rattle.std.specs.Char.{to_ascii_lowercase}
use Rattle.std.specs.List.{starts_with, ends_with, take-map}
use Rattle.std.proofs.lemmas.List.{length-map, drop-map}
use Rattle.std.proofs.lemmas.Bool.Decides.{same_from_decides}
use Rattle.std.proofs.lemmas.Slice.Eq.{bytes_eq-Decides}
use Rattle.lb_acl.specs.Bytes.{compared, is_equal}

bytes_eq_swapped : (a b : List ℕ) → bytes_eq a b ≡ bytes_eq b a
bytes_eq_swapped a b =
    same_from_decides _ _ (bytes_eq-Decides a b) ((λ e. sym ((bytes_eq-Decides b a).0 e)), (λ e. (bytes_eq-Decides b a).1 (sym e)))

length-compared : (i : Bool) (a : List ℕ) → length (compared i a) ≡ length a
length-compared true a = length-map a to_ascii_lowercase
length-compared false a = refl

compared-take : (i : Bool) (n : ℕ) (a : List ℕ) → compared i (take n a) ≡ take n (compared i a)
compared-take true n a = sym (take-map to_ascii_lowercase n a)
compared-take false n a = refl

compared-drop : (i : Bool) (n : ℕ) (a : List ℕ) → compared i (drop n a) ≡ drop n (compared i a)
compared-drop true n a = sym (drop-map to_ascii_lowercase n a)
compared-drop false n a = refl

-- the front that is as long as the value is the value
pub is_equal-front : (i : Bool) (sample value : List ℕ) → is_equal i (take (length value) sample) value ≡ starts_with nat_eq (compared i sample) (compared i value)
is_equal-front i sample value =
    rw (length-compared i value, ← compared-take i (length value) sample) (bytes_eq_swapped (compared i (take (length value) sample)) (compared i value))

-- the end that is as long as the value is the value
pub is_equal-end : (i : Bool) (sample value : List ℕ) → is_equal i (drop (length sample - length value) sample) value ≡ ends_with nat_eq (compared i sample) (compared i value)
is_equal-end i sample value =
    rw (length-compared i value, length-compared i sample, ← compared-drop i (length sample - length value) sample) (bytes_eq_swapped (compared i (drop (length sample - length value) sample)) (compared i value))
