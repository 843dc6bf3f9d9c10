-- When a sample of a request matches a value: HAProxy Configuration Manual 2.8, sections 7.1.3 ("Matching strings") and 7.1
-- (the flag `-i`).
use Rattle.std.specs.Prelude.{ℕ, Bool, nat_eq, List, bytes_eq}
use Rattle.std.specs.List.{starts_with, ends_with}
use Rattle.lb_acl.specs.declared.matching.Matching.{Matching}
use Rattle.lb_acl.specs.declared.matching.Matching.TheVariants.{Equal, Begins, Ends}
use Rattle.lb_acl.specs.Bytes.{compared}

-- the sample is, begins with or ends with the value
abbrev pub is_matched : Matching → List ℕ → List ℕ → Bool
is_matched Equal sample value = bytes_eq sample value
is_matched Begins sample value = starts_with nat_eq sample value
is_matched Ends sample value = ends_with nat_eq sample value

-- the same of the two as they are compared
abbrev pub matches : Matching → Bool → List ℕ → List ℕ → Bool
matches matching ignores_case sample value = is_matched matching (compared ignores_case sample) (compared ignores_case value)
