-- Texts of lines: a heading of two lines, lines that each add to what was read, and the line `end`. A text is its parts
-- between the line ends (byte 10), and a line its words between the spaces (byte 32). The last part, behind the last
-- line end, is only looked at for being empty.
use Rattle.std.specs.Prelude.{ℕ, ◌+◌, ◌^◌, Bool, true, false, ◌==◌, nat_lt, not, Option, Some, None, List, [], ◌∷◌, length, codes, Result, Ok, Err, if◌then◌else◌}
use Rattle.std.specs.Option.{ok_or}
use Rattle.std.specs.Str.{bytes_eq}
use Rattle.lb_types_text.specs.Parts.{parts}
use Rattle.dual_cert_text.specs.declared.fault.TextFault.{TextFault}
use Rattle.dual_cert_text.specs.declared.fault.TextFault.TheVariants.{BadLine, TooLarge, NotCanonical, Truncated}
use Rattle.dual_cert_text.specs.Faults.{◌>>=◌}
use Rattle.dual_cert_text.specs.Words.{keyed}

-- a format of texts that are read into a `Draft`
pub record Format (Draft : Type 0) : Type 0 where
  -- the first word of the text
  pub word : List ℕ
  -- what is read once the heading is: whether the text is of version 2, and the version of the table
  pub start : Bool → ℕ → Draft
  -- the draft with the words of line n added
  pub add : ℕ → Draft → List (List ℕ) → Result Draft TextFault
  -- the text may end with this draft
  pub may_end : Draft → Bool

-- no byte stands behind the last line end
unfoldable pub is_nothing : List (List ℕ) → Bool
is_nothing (part ∷ []) = length part == 0
is_nothing _ = false

-- the line `end`, which is line n, behind a draft and before these parts
unfoldable pub end_at : {Draft : Type 0} → Format Draft → ℕ → Draft → List (List ℕ) → Result Draft TextFault
end_at format n draft rest =
    if not (format.may_end draft) then Err NotCanonical else (if is_nothing rest then Ok draft else Err (BadLine (n + 1)))

-- the lines from line n on, behind a draft
unfoldable pub body_at : {Draft : Type 0} → Format Draft → ℕ → Draft → List (List ℕ) → Result Draft TextFault
body_at format n draft [] = Err Truncated
body_at format n draft (line ∷ rest) =
    if length rest == 0 then Err Truncated
    else (if bytes_eq line (codes "end") then end_at format n draft rest
    else (format.add n draft (parts 32 line) >>= λ next. body_at format (n + 1) next rest))

-- a whole line and the parts behind it
pub record Line : Type 0 where
  pub line : List ℕ
  pub rest : List (List ℕ)

-- the first line, where it has an end
unfoldable pub line_of : List (List ℕ) → Result Line TextFault
line_of [] = Err Truncated
line_of (line ∷ rest) = if length rest == 0 then Err Truncated else Ok (record { line = line; rest = rest })

-- whether the text is of version 2, by the words of its first line
unfoldable pub form_of : List ℕ → List (List ℕ) → Option Bool
form_of word (first ∷ form ∷ []) =
    if bytes_eq first word then (if bytes_eq form (codes "1") then Some false else (if bytes_eq form (codes "2") then Some true else None)) else None
form_of word _ = None

-- the version of the table, by the words of the second line
unfoldable pub version_of : List (List ℕ) → Option ℕ
version_of (word ∷ number ∷ []) = keyed (codes "version") word number
version_of _ = None

-- the two lines of the heading, and the parts behind them
pub record Heading : Type 0 where
  pub is_second : Bool
  pub version : ℕ
  pub rest : List (List ℕ)

-- the heading of a text with this first word
unfoldable pub heading_at : List ℕ → List (List ℕ) → Result Heading TextFault
heading_at word lines = do
  first ← line_of lines
  is_second ← ok_or (form_of word (parts 32 first.line)) (BadLine 1)
  second ← line_of first.rest
  version ← ok_or (version_of (parts 32 second.line)) (BadLine 2)
  if nat_lt (2 ^ 63) version then Err TooLarge else Ok (record { is_second = is_second; version = version; rest = second.rest })

-- what a text is read as, or its first fault
unfoldable pub reading : {Draft : Type 0} → Format Draft → List ℕ → Result Draft TextFault
reading format text =
    heading_at format.word (parts 10 text) >>= λ heading. body_at format 3 (format.start heading.is_second heading.version) heading.rest
