-- What the head of an answer teaches of a cookie: RFC 9112 for the head, RFC 6265, sections 5.2 and 5.3, for the cookie. Our own: how
-- many bytes are looked at; and that an answer without a date that can be read counts as one of the start of the year 2000, so that
-- only the usual dates of deletion are past.
use Rattle.std.specs.Prelude.{ℕ, Bool, nat_lt, ◌&&◌, List, [], ◌∷◌, length, take, Option, Some, None, unwrap_or, codes, bytes_eq, if◌then◌else◌}
use Rattle.std.specs.List.{filter_map, last_or, list_all}
use Rattle.std.specs.Option.{is_none, option_and_then}
use Rattle.set_cookie.specs.declared.answer.TheConstants.{MOST_BYTES}
use Rattle.set_cookie.specs.declared.fields.TheConstants.{UNDATED}
use Rattle.set_cookie.specs.Dates.{moment}
use Rattle.set_cookie.specs.Fields.{is_field_line, values_of}
use Rattle.set_cookie.specs.Lifetimes.{is_deletion}
use Rattle.set_cookie.specs.Lines.{final_head}
use Rattle.set_cookie.specs.SetCookies.{set_cookies, pair_of, value_of}
use Rattle.set_cookie.specs.StatusLines.{is_status_line}

-- the moment at which the server says that it answered
unfoldable pub answered_at : List (List ℕ) → ℕ
answered_at fields = unwrap_or (last_or None (filter_map moment (values_of (codes "Date") fields))) UNDATED

-- the value of the cookie, if the text doesn't delete it
unfoldable pub value_at : ℕ → List ℕ → Option (List ℕ)
value_at answered text = if is_deletion answered text then None else Some (value_of (pair_of text))

-- what the fields of a head teach: the last text for a cookie of this name counts
unfoldable pub taught_by_fields : List ℕ → List (List ℕ) → Option (List ℕ)
taught_by_fields name fields = option_and_then (value_at (answered_at fields)) (last_or None (set_cookies name fields))

-- what a head teaches: a bad one nothing
abbrev pub taught_by : List ℕ → List (List ℕ) → Option (List ℕ)
taught_by name [] = None
taught_by name (status ∷ fields) =
    if is_status_line status && list_all is_field_line fields then taught_by_fields name fields else None

-- the value of the cookie of this name that the first bytes of an answer teach
unfoldable pub taught : List ℕ → List ℕ → Option (List ℕ)
taught answer name = option_and_then (taught_by name) (final_head (take MOST_BYTES answer))

-- the bytes are the beginning of an answer in HTTP/1, as far as they go
abbrev pub may_be_answer : List ℕ → Bool
may_be_answer answer = bytes_eq (take 7 answer) (take (length answer) (codes "HTTP/1."))

-- more bytes may teach something: fewer than the most have come, they may be of an answer, and its head hasn't come whole
unfoldable pub is_unfinished : List ℕ → Bool
is_unfinished answer = nat_lt (length answer) MOST_BYTES && may_be_answer answer && is_none (final_head answer)
