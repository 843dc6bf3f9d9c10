-- The path of a request target: RFC 9112, section 3.2; HAProxy Configuration Manual 2.8, section 7.3.6, `path`. That `#` ends it
-- is a choice of this project.
use Rattle.std.specs.Prelude.{ℕ, Bool, nat_eq, ◌==◌, ◌||◌, List, [], ◌∷◌, drop, Option, Some, None, unwrap_or, codes, if◌then◌else◌}
use Rattle.std.specs.List.{starts_with, before_first}
use Rattle.lb_acl.specs.Bytes.{place_of}

-- what stands behind the first `://`
abbrev pub behind_scheme : List ℕ → Option (List ℕ)
behind_scheme [] = None
behind_scheme (b ∷ bs) = if starts_with nat_eq (b ∷ bs) (codes "://") then Some (drop 3 (b ∷ bs)) else behind_scheme bs

-- where the path is looked for: behind the first `://`, if the target has one and doesn't begin with `/`
abbrev pub search_area : List ℕ → List ℕ
search_area target = if starts_with nat_eq target (codes "/") then target else unwrap_or (behind_scheme target) target

-- the bytes from the first `/` on
abbrev pub from_slash : List ℕ → List ℕ
from_slash bytes = drop (place_of 47 bytes) bytes

-- a `?` or a `#`
abbrev pub ends_path : ℕ → Bool
ends_path byte = byte == 63 || byte == 35

-- from the first `/` up to the first `?` or `#`
unfoldable pub path_of : List ℕ → List ℕ
path_of target = before_first ends_path (from_slash (search_area target))
