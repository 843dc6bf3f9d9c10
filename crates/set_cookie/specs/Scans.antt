-- What is found from line to line. No public clause cites this module.
use Rattle.std.specs.Prelude.{ℕ, List, Option, None, codes, if◌then◌else◌}
use Rattle.std.specs.List.{before_first, filter_map, last_or, list_all}
use Rattle.lb_acl.specs.declared.key.KeySample.{KeySample}
use Rattle.lb_acl.specs.declared.key.KeySample.TheVariants as Of
use Rattle.set_cookie.specs.Answers.{taught_by}
use Rattle.set_cookie.specs.Dates.{moment}
use Rattle.set_cookie.specs.Fields.{is_field_line, values_of}
use Rattle.set_cookie.specs.Lines.{is_empty}
use Rattle.set_cookie.specs.SetCookies.{set_cookies}

-- the lines before the first empty one
abbrev pub head_of : List (List ℕ) → List (List ℕ)
head_of lines = before_first is_empty lines

-- the last text for the cookie in the rest of the head, or else what was found before, and nothing where the head is bad
unfoldable pub text_after : List ℕ → Option (List ℕ) → List (List ℕ) → Option (List ℕ)
text_after name found lines = if list_all is_field_line (head_of lines) then last_or found (set_cookies name (head_of lines)) else None

-- the last date in the rest of the head, or else what was found before
unfoldable pub date_after : Option ℕ → List (List ℕ) → Option ℕ
date_after found lines = last_or found (filter_map moment (values_of (codes "Date") (head_of lines)))

-- the text that a head teaches of this sample
abbrev pub text_by : KeySample → List (List ℕ) → Option (List ℕ)
text_by (Of.Cookie name) head = taught_by name head
text_by _ head = None
