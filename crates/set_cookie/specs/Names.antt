-- Where the name of a line's field ends, as one walk finds it. No public clause cites this module.
use Rattle.std.specs.Prelude.{ℕ, Bool, nat_lt, ◌==◌, ◌||◌, not, List, length, get_or, position, Option}
use Rattle.set_cookie.specs.Fields.{is_visible}

-- no name has this byte
abbrev pub ends_name : ℕ → Bool
ends_name byte = byte == 58 || not (is_visible byte)

-- the place of the first byte that no name has
abbrev pub name_end : List ℕ → Option ℕ
name_end line = position ends_name line

-- the name may have so many bytes: `:` follows them, or nothing
abbrev pub may_end_at : ℕ → List ℕ → Bool
may_end_at len line = not (nat_lt len (length line)) || get_or line len 0 == 58
