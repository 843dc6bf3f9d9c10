-- Dates: RFC 9110, section 5.6.7, and RFC 6265, section 5.1.1. Read are weekday, day, month, year, time and zone, in this order, with
-- blanks, commas or hyphens between them: an IMF-fixdate, a date of RFC 850, and one with hyphens and a year of four digits, as
-- Netscape had it. Weekday and zone say nothing, as in RFC 6265.
use Rattle.std.specs.Prelude.{ℕ, ◌+◌, ◌*◌, Bool, true, nat_lt, ◌==◌, ◌||◌, ◌&&◌, not, List, [], ◌∷◌, length, Option, Some, None, codes, if◌then◌else◌}
use Rattle.std.specs.List.{slice_split, filter}
use Rattle.std.specs.Str.Parse.{digits_value}
use Rattle.lb_types_text.specs.Numbers.{is_number}
use Rattle.lb_types_text.specs.Parts.{parts}
use Rattle.lb_acl.specs.Bytes.{is_equal}

-- the second step, if the first one found something
infixl 10 ◌>>=◌
abbrev pub ◌>>=◌ : {A B : Type 0} → Option A → (A → Option B) → Option B
(Some x) >>= f = f x
None >>= f = None

-- a blank, a comma or a hyphen
abbrev pub is_date_mark : ℕ → Bool
is_date_mark byte = byte == 32 || byte == 44 || byte == 45

-- the words between such marks
unfoldable pub date_words : List ℕ → List (List ℕ)
date_words text = filter (λ word. not (length word == 0)) (slice_split is_date_mark text)

-- the number that the word spells, if it is within these bounds
unfoldable pub number_within : ℕ → ℕ → List ℕ → Option ℕ
number_within least greatest word =
    if is_number word && not (nat_lt (digits_value 10 word) least) && not (nat_lt greatest (digits_value 10 word))
    then Some (digits_value 10 word) else None

-- how many months of the year are before it
unfoldable pub month_of : List ℕ → Option ℕ
month_of word =
    if is_equal true word (codes "Jan") then Some 0 else
    (if is_equal true word (codes "Feb") then Some 1 else
    (if is_equal true word (codes "Mar") then Some 2 else
    (if is_equal true word (codes "Apr") then Some 3 else
    (if is_equal true word (codes "May") then Some 4 else
    (if is_equal true word (codes "Jun") then Some 5 else
    (if is_equal true word (codes "Jul") then Some 6 else
    (if is_equal true word (codes "Aug") then Some 7 else
    (if is_equal true word (codes "Sep") then Some 8 else
    (if is_equal true word (codes "Oct") then Some 9 else
    (if is_equal true word (codes "Nov") then Some 10 else
    (if is_equal true word (codes "Dec") then Some 11 else None)))))))))))

-- a year below 100 is one of 1970 to 2069, and no date is before 1601
unfoldable pub full_year : ℕ → Option ℕ
full_year year =
    if nat_lt year 70 then Some (2000 + year)
    else (if nat_lt year 100 then Some (1900 + year) else (if nat_lt year 1601 then None else Some year))

-- the seconds since midnight
abbrev pub seconds_at : List (List ℕ) → Option ℕ
seconds_at (hour ∷ minute ∷ second ∷ []) = do
  h ← number_within 0 23 hour
  m ← number_within 0 59 minute
  s ← number_within 0 59 second
  Some (h * 3600 + m * 60 + s)
seconds_at _ = None

-- `hour:minute:second`
unfoldable pub seconds_of : List ℕ → Option ℕ
seconds_of word = seconds_at (parts 58 word)

-- Where these stand in the order of moments: a number that is larger for a later one. It counts 12 months a year and 32 days a month
unfoldable pub moment_of : List ℕ → List ℕ → List ℕ → List ℕ → Option ℕ
moment_of day month year time = do
  d ← number_within 1 31 day
  m ← month_of month
  n ← number_within 0 9999 year
  y ← full_year n
  s ← seconds_of time
  Some (((y * 12 + m) * 32 + d) * 86400 + s)

abbrev pub moment_at : List (List ℕ) → Option ℕ
moment_at (weekday ∷ day ∷ month ∷ year ∷ time ∷ zone ∷ []) = moment_of day month year time
moment_at _ = None

-- where the date stands in the order of moments, if it can be read
unfoldable pub moment : List ℕ → Option ℕ
moment text = moment_at (date_words text)
