-- The program's table of commands: what the words behind the program's name ask for.
use Rattle.std.specs.Prelude.{◌||◌, Bool, true, false, List, [], ◌∷◌}
use Rattle.std.specs.Prelude.{Option, Some, None, option_map, option_and_then, unwrap_or, if◌then◌else◌, codes, bytes_eq}
use Rattle.std.specs.Option.{option_or}
use Rattle.lb_cli_words.specs.Words.{Text, Reader, flagged, lettered, named, both, operands_of, files_with, taken_out}
use Rattle.lb_cli_words.specs.Words.{is_help, asks_help_within, asks_help_with}
use Rattle.lb_cli_words.specs.declared.job.Job.{Job}
use Rattle.lb_cli_words.specs.declared.job.Job.TheVariants.{Verify, VerifyForSheet, Plan, PlanTable, Format, Sheet, Commands, Check, CheckAll, CheckHaproxy, Replay, Run, RunWithPins, Version}
use Rattle.lb_cli_words.specs.declared.own_option.OwnOption.{OwnOption}
use Rattle.lb_cli_words.specs.declared.own_option.OwnOption.TheVariants as option
use Rattle.lb_cli_words.specs.RunWords.{options_in, row_of_options}

-- a row of the table: a command, with its option where that makes it another one, and its files
abbrev pub Row : Type 0
Row = Text × List Text

-- the row that a job is
abbrev pub row_of : Job → Row
row_of (Verify file) = (codes "verify", file.now ∷ [])
row_of (VerifyForSheet sheet plan) = (codes "verify --sheet", sheet.now ∷ plan.now ∷ [])
row_of (Plan file) = (codes "plan", file.now ∷ [])
row_of (PlanTable file) = (codes "plan --table", file.now ∷ [])
row_of (Format file) = (codes "format", file.now ∷ [])
row_of (Sheet target state dump) = (codes "sheet", target.now ∷ state.now ∷ dump.now ∷ [])
row_of (Commands backend state dump plan) = (codes "commands", backend.now ∷ state.now ∷ dump.now ∷ plan.now ∷ [])
row_of (Check file) = (codes "check", file.now ∷ [])
row_of (CheckAll file) = (codes "check --all", file.now ∷ [])
row_of (CheckHaproxy file) = (codes "check --haproxy", file.now ∷ [])
row_of (Replay config script) = (codes "replay", config.now ∷ script.now ∷ [])
row_of (Run file) = (codes "run", file.now ∷ [])
row_of (RunWithPins file pins every) = (codes "run --pins", file.now ∷ pins.now ∷ unwrap_or (option_map (λ value. value.now ∷ []) every) [])
row_of Version = (codes "--version", [])

-- the options by which a command is another one, or names its file
abbrev pub reader_of : OwnOption → Reader
reader_of option.File = lettered 102
reader_of option.Sheet = named (codes "--sheet")
reader_of option.Table = flagged (codes "--table")
reader_of option.Pins = named (codes "--pins")
reader_of option.PinsEvery = named (codes "--pins-every")

-- the option has a value
abbrev pub has_value : OwnOption → Bool
has_value option.Table = false
has_value _ = true

-- the flag of this name and `-f FILE`, in either order
abbrev pub flag_and_file : Text → Reader
flag_and_file name = both (flagged name) (reader_of option.File)

-- these files as a row of the table
abbrev pub as_row : Text → Option (List Text) → Option Row
as_row command = option_map (λ files. (command, files))

-- the rows of the table, by their commands
abbrev pub verify_row : List Text → Option Row
verify_row words = option_or (as_row (codes "verify") (operands_of 1 words))
    (as_row (codes "verify --sheet") (files_with (taken_out (reader_of option.Sheet)) 1 words))

abbrev pub plan_row : List Text → Option Row
plan_row words = option_or (as_row (codes "plan") (operands_of 1 words))
    (as_row (codes "plan --table") (files_with (taken_out (reader_of option.Table)) 1 words))

abbrev pub format_row : List Text → Option Row
format_row words = as_row (codes "format") (operands_of 1 words)

abbrev pub sheet_row : List Text → Option Row
sheet_row words = as_row (codes "sheet") (operands_of 3 words)

abbrev pub commands_row : List Text → Option Row
commands_row words = as_row (codes "commands") (operands_of 4 words)

abbrev pub check_row : List Text → Option Row
check_row words = option_or (as_row (codes "check") (files_with (reader_of option.File) 0 words))
    (option_or (as_row (codes "check --all") (files_with (flag_and_file (codes "--all")) 0 words))
    (as_row (codes "check --haproxy") (files_with (flag_and_file (codes "--haproxy")) 0 words)))

abbrev pub replay_row : List Text → Option Row
replay_row words = as_row (codes "replay") (operands_of 2 words)

abbrev pub run_row : List Text → Option Row
run_row words =
    let options = options_in words in
    option_and_then (λ none. row_of_options options) (operands_of 0 options.rest)

abbrev pub version_row : List Text → Option Row
version_row [] = Some (codes "--version", [])
version_row _ = None

-- the row that a command is with the words behind it
abbrev pub row_behind : Text → List Text → Option Row
row_behind command words =
    if bytes_eq command (codes "verify") then verify_row words
    else if bytes_eq command (codes "plan") then plan_row words
    else if bytes_eq command (codes "format") then format_row words
    else if bytes_eq command (codes "sheet") then sheet_row words
    else if bytes_eq command (codes "commands") then commands_row words
    else if bytes_eq command (codes "check") then check_row words
    else if bytes_eq command (codes "replay") then replay_row words
    else if bytes_eq command (codes "run") then run_row words
    else if bytes_eq command (codes "--version") then version_row words
    else None

-- the words ask for help behind the flag of this name, alone or with `-f FILE`
abbrev pub asks_help_beside : Text → List Text → Bool
asks_help_beside name words = asks_help_with (flagged name) 0 words || asks_help_with (flag_and_file name) 0 words

-- the words behind `check` ask for help: behind none of its options, one or two
abbrev pub check_asks_help : List Text → Bool
check_asks_help words =
    asks_help_within 0 words || asks_help_with (reader_of option.File) 0 words || asks_help_beside (codes "--all") words
    || asks_help_beside (codes "--haproxy") words

-- the words behind a command ask for help
abbrev pub asks_help_behind : Text → List Text → Bool
asks_help_behind command words =
    if bytes_eq command (codes "verify") then asks_help_within 1 words || asks_help_with (taken_out (reader_of option.Sheet)) 1 words
    else if bytes_eq command (codes "plan") then asks_help_within 1 words || asks_help_with (taken_out (reader_of option.Table)) 1 words
    else if bytes_eq command (codes "format") then asks_help_within 1 words
    else if bytes_eq command (codes "sheet") then asks_help_within 3 words
    else if bytes_eq command (codes "commands") then asks_help_within 4 words
    else if bytes_eq command (codes "check") then check_asks_help words
    else if bytes_eq command (codes "replay") then asks_help_within 2 words
    else if bytes_eq command (codes "run") then asks_help_within 0 (options_in words).rest
    else false

-- the row that the words are. The first word is the program's name, the second a command of the table
abbrev pub row_in : List Text → Option Row
row_in [] = None
row_in (program ∷ []) = None
row_in (program ∷ command ∷ others) = row_behind command others

-- the words ask for help, on the program or on a command
abbrev pub asks_help : List Text → Bool
asks_help [] = false
asks_help (program ∷ []) = false
asks_help (program ∷ command ∷ others) = is_help command || asks_help_behind command others
