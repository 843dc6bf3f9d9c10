-- What `check --all` prints of a configuration: what `check` does if it is valid, and warnings; else a line for each fault that is found, with
-- a hint or without, and how many these are. The first one is the text's; each further one is that of the text without the lines of those before it.
-- Nothing is said of what hints and warnings there are.
use Rattle.std.specs.Prelude.{◌≡◌, ℕ, zero, suc, ◌+◌, ◌==◌, nat_lt, Bool, false, List, [], ◌∷◌, ◌++◌, map, length, Option, Some, None}
use Rattle.std.specs.Prelude.{Result, Ok, Err, codes, if◌then◌else◌}
use Rattle.std.specs.Fmt.{decimal}
use Rattle.std.specs.List.{flat_map}
use Rattle.std.specs.Option.{option_map_or}
use Rattle.lb_config_hints.specs.declared.hint.Hint.{Hint}
use Rattle.lb_config_hints.specs.Hints.{hint_words}
use Rattle.lb_config_sections.specs.declared.cause.LocatedFault.{LocatedFault}
use Rattle.lb_config_sections.specs.References.{checked_in}
use Rattle.lb_config_sections.specs.SectionsView.{SectionsView}
use Rattle.lb_cli_faults.specs.Faults.{fault_line}
use Rattle.lb_cli.specs.Checking.{is_valid, report_of}
use Rattle.lb_cli.specs.declared.check_all_job.TheConstants.{MOST_FAULTS}

-- a text whose first line has the number `now`, without the bytes of the line with the number `line`. Line ends (10) stay
abbrev pub kept_from : (now line : ℕ) → List ℕ → List ℕ
kept_from now line [] = []
kept_from now line (byte ∷ text) =
    if byte == 10 then byte ∷ kept_from (now + 1) line text
    else if now == line then kept_from now line text
    else byte ∷ kept_from now line text

-- the text without the bytes of one line, so that the others keep their numbers. The first line has the number 1
abbrev pub without_line : ℕ → List ℕ → List ℕ
without_line line text = kept_from 1 line text

-- the fault is at this line
abbrev pub is_at : Option ℕ → LocatedFault → Bool
is_at None fault = false
is_at (Some line) fault = fault.line == line

-- a text's fault, unless it is at the line that was left out last: a text that is too long has its fault at line 1 all the same
abbrev pub next_fault : Option ℕ → Result SectionsView LocatedFault → Option LocatedFault
next_fault last (Ok sections) = None
next_fault last (Err fault) = if is_at last fault then None else Some fault

-- at most so many faults of a text in which a line was left out: its fault, and then those of the text without that fault's line
unfoldable pub faults_after : Option ℕ → ℕ → List ℕ → List LocatedFault
faults_after last zero text = []
faults_after last (suc most) text =
    option_map_or (λ fault. fault ∷ faults_after (Some fault.line) most (without_line fault.line text)) (next_fault last (checked_in text)) []

-- at most so many faults of the text
abbrev pub first_faults : ℕ → List ℕ → List LocatedFault
first_faults most text = faults_after None most text

-- how the number of faults is spelled: `1 fault`, `2 faults`, and `100 faults or more` where no more were looked for
abbrev pub count_words : ℕ → List ℕ
count_words count = if count == 1 then codes " fault\n" else if nat_lt count MOST_FAULTS then codes " faults\n" else codes " faults or more\n"

abbrev pub count_line : ℕ → List ℕ
count_line count = decimal count ++ count_words count

-- a line of what is no fault, which begins with two spaces
abbrev pub aside : List ℕ → List ℕ
aside words = codes "  " ++ words ++ 10 ∷ []

-- the line of a hint, if there is one
abbrev pub hint_line : Option Hint → List ℕ
hint_line None = []
hint_line (Some hint) = aside (hint_words hint)

-- the line of a fault, and that of its hint
abbrev pub said_lines : LocatedFault × Option Hint → List ℕ
said_lines said = fault_line said.0 ++ hint_line said.1

-- the lines of the faults with their hints, and how many faults these are
abbrev pub faults_text : List (LocatedFault × Option Hint) → List ℕ
faults_text faults = flat_map said_lines faults ++ count_line (length faults)

-- what is printed of a text with these faults and hints, and these warnings
abbrev pub full_report : List (LocatedFault × Option Hint) → List (List ℕ) → List ℕ → List ℕ
full_report faults concerns text =
    if is_valid (checked_in text) then report_of (checked_in text) ++ flat_map aside concerns else faults_text faults

-- what is printed of a text: its faults, each with a hint or without, or warnings
pub record IsFullReport (text report : List ℕ) : Type 0 where
  pub faults : List (LocatedFault × Option Hint)
  pub found : map (λ said. said.0) faults ≡ first_faults MOST_FAULTS text
  pub concerns : List (List ℕ)
  pub is : report ≡ full_report faults concerns text
