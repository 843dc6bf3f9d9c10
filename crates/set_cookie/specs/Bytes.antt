-- Bytes before and after a mark. No standard has a word of it.
use Rattle.std.specs.Prelude.{ℕ, Bool, nat_lt, ◌==◌, List, length}
use Rattle.std.specs.List.{before_first, after_first}
use Rattle.lb_acl.specs.Bytes.{place_of}

-- what stands before the first such byte, or all where there is none
abbrev pub before : ℕ → List ℕ → List ℕ
before mark bytes = before_first (λ b. b == mark) bytes

-- what stands after the first such byte, or nothing where there is none
abbrev pub after : ℕ → List ℕ → List ℕ
after mark bytes = after_first (λ b. b == mark) bytes

-- there is such a byte
abbrev pub has_mark : ℕ → List ℕ → Bool
has_mark mark bytes = nat_lt (place_of mark bytes) (length bytes)
