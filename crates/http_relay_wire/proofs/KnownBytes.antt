-- Known bytes that grow or shrink by one part after another.
use Rattle.std.proofs.Common.{◌≡◌, ℕ, List, [], ◌++◌, Option, None, Some, refl, ap, sym, append_assoc}
use Rattle.std.specs.Io.KnownBytes.{append_known, prepend_known}

pub append_twice : (old : Option (List ℕ)) (a b : List ℕ) → append_known (append_known old a) b ≡ append_known old (a ++ b)
append_twice None a b = refl
append_twice (Some xs) a b = ap Some (append_assoc xs a b)

pub prepend_twice : (new : Option (List ℕ)) (a b : List ℕ) → prepend_known a (prepend_known b new) ≡ prepend_known (a ++ b) new
prepend_twice None a b = refl
prepend_twice (Some xs) a b = ap Some (sym (append_assoc a b xs))

pub prepend_nothing : (known : Option (List ℕ)) → prepend_known [] known ≡ known
prepend_nothing None = refl
prepend_nothing (Some xs) = refl
