-- Status lines: RFC 9112, section 4, and RFC 9110, section 15. Our own: a reason needs no blank before it where it is empty.
use Rattle.std.specs.Prelude.{ℕ, Bool, nat_eq, ◌==◌, ◌&&◌, ◌||◌, not, List, length, get_or, take, drop, codes, bytes_eq}
use Rattle.std.specs.List.{starts_with, list_all}
use Rattle.std.specs.Char.{is_ascii_digit}

-- the three digits of the status
abbrev pub code_of : List ℕ → List ℕ
code_of line = take 3 (drop 9 line)

-- the line ends after the status, or a blank follows
abbrev pub ends_code : List ℕ → Bool
ends_code line = length line == 12 || get_or line 12 0 == 32

-- `HTTP/1.`, a digit and a blank
abbrev pub has_version : List ℕ → Bool
has_version line = starts_with nat_eq line (codes "HTTP/1.") && is_ascii_digit (get_or line 7 0) && get_or line 8 0 == 32

-- the version, the status, and then a blank or the end
unfoldable pub is_status_line : List ℕ → Bool
is_status_line line = has_version line && length (code_of line) == 3 && list_all is_ascii_digit (code_of line) && ends_code line

-- the status is 1xx, so that another head follows. 101 is final: after it the connection isn't HTTP
unfoldable pub is_interim : List ℕ → Bool
is_interim line = is_status_line line && get_or line 9 0 == 49 && not (bytes_eq (code_of line) (codes "101"))
